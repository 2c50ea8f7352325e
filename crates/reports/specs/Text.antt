-- The lines that the programs of document 01 print, as lists of bytes. Definitions only.
use Rattle.std.specs.Prelude.{ℕ, zero, suc, List, [], ◌∷◌, ◌++◌, ℤ}
use Prim.Native.Char.{code}
use Prim.Native.String.{String, [] as []ˢ, ◌∷◌ as ◌∷ˢ◌}
use Rattle.machine.specs.Calls.{Verdict, going_on, none, best}
use Rattle.reports.specs.Decimal.{decimal, signed_decimal}

-- the buffer that a text is put into
abbrev pub buffer_size : ℕ
buffer_size = 4096

-- a text's bytes: each character here is ASCII, and its code is the byte
abbrev pub ascii : String → List ℕ
ascii []ˢ = []
ascii (c ∷ˢ s) = code c ∷ ascii s

-- "0 keep, 1 force, 2 bar, 3 already required, 4 already struck"; there is no ruling above 4
unfoldable pub ruling_word : ℕ → List ℕ
ruling_word zero = ascii "keep"
ruling_word (suc zero) = ascii "force"
ruling_word (suc (suc zero)) = ascii "bar"
ruling_word (suc (suc (suc zero))) = ascii "required"
ruling_word (suc (suc (suc (suc k)))) = ascii "struck"

-- "'refused N at P' (N number, P place …)"
unfoldable pub refused_line : ℕ → ℕ → List ℕ
refused_line number place = ascii "refused " ++ decimal number ++ ascii " at " ++ decimal place ++ ascii "\n"

-- "'dead'"
unfoldable pub dead_line : List ℕ
dead_line = ascii "dead\n"

-- "The first line has the bound and the ceiling": 'bound 10 ceiling 12'
unfoldable pub bound_line : ℤ → ℤ → List ℕ
bound_line bound ceiling = ascii "bound " ++ signed_decimal bound ++ ascii " ceiling " ++ signed_decimal ceiling ++ ascii "\n"

-- "Fields: leg, its buoys, ruling": '1 1-2 keep'
unfoldable pub edge_line : ℕ → ℕ → ℕ → ℕ → List ℕ
edge_line k a b ruling =
    decimal k ++ ascii " " ++ decimal a ++ ascii "-" ++ decimal b ++ ascii " " ++ ruling_word ruling ++ ascii "\n"

-- "prints 'going on', 'none' or 'cost C' (C the best cost)"
abbrev pub verdict_line : Verdict → List ℕ
verdict_line going_on = ascii "going on\n"
verdict_line none = ascii "none\n"
verdict_line (best cost) = ascii "cost " ++ signed_decimal cost ++ ascii "\n"

-- "then on a second line 'nodes K' (K the count)"
unfoldable pub nodes_line : ℕ → List ℕ
nodes_line count = ascii "nodes " ++ decimal count ++ ascii "\n"
