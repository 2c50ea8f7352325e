-- The chain as a list of record numbers, whatever the records hold. Definitions, and that a chain goes by them.
use Rattle.std.specs.Prelude.{ℕ, zero, suc, ◌<◌, ◌≡◌, refl, List}
use Rattle.std.proofs.Common.{arith}
use Rattle.charts.specs.Chart.{chain_head, next_of}

-- what follows record k: its next, and nothing after the end
unfoldable pub follow : List ℕ → ℕ → ℕ
follow s zero = 0
follow s (suc k) = next_of s (suc k)

-- "The chain starts at head and goes on by next; zero ends it": the j-th record number along the chain, from 0; 0 from the end on
unfoldable pub link : List ℕ → ℕ → ℕ
link s zero = chain_head s
link s (suc j) = follow s (link s j)

-- a record number is 1 or more
pub above : (k : ℕ) → (k ≡ 0 → ⊥) → 0 < k
above k n = omega arith

pub link-first : (s : List ℕ) → link s 0 ≡ chain_head s
unfolding link
link-first s = refl

pub follow_on : (s : List ℕ) (k : ℕ) → (k ≡ 0 → ⊥) → follow s k ≡ next_of s k
unfolding follow
follow_on s zero n = absurd (n refl)
follow_on s (suc k) n = refl

pub link-next : (s : List ℕ) (j : ℕ) → (link s j ≡ 0 → ⊥) → link s (suc j) ≡ next_of s (link s j)
unfolding link
link-next s j n = follow_on s (link s j) n
