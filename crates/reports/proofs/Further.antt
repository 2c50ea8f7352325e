-- Laws of text put into a list of bytes at a place, which no proof cites today: a program's text is a string of its own. Assumes nothing.
use Rattle.std.specs.Prelude.{ℕ, suc, ◌+◌, ◌-◌, ◌*◌, ◌/◌, ◌%◌, ◌<◌, ◌≤◌, ◌≡◌, refl, true, false, List, [], ◌∷◌, ◌++◌, length, get_or, take, drop, set, replicate, ℤ, pos, negsuc, nat_abs}
use Rattle.std.proofs.Common.{◌∙◌, ap, true≢false, arith, add-one, length-append, length-drop, ltb-true, take-suc, take_all}
use Rattle.std.proofs.lemmas.List.{take-replicate}
use Rattle.std.proofs.lemmas.List.Edits.{sets}
use Rattle.std.specs.Int.Signed.{lt_z}
use Rattle.graph.specs.declared.Graph.{Graph}
use Rattle.graph.specs.Limits.{max_vertices, max_edges}
use Rattle.graph.specs.Valid.{Valid}
use Rattle.reduction.specs.Answers.{rule_reply_over, rule_leaves_over}
use Rattle.machine.specs.Calls.{Answer}
use Rattle.machine.specs.Machine.{opening_of}
use Rattle.reports.specs.Decimal.{decimal, signed_decimal, decimal_digit, decimal-more}
use Rattle.reports.specs.Text.{edge_line}
use Rattle.reports.specs.Input.{ceiling_size, chart_of}
use Rattle.reports.specs.Rulings.{edge_lines, plain_denominator, reply_text, rules_text}
use Rattle.reports.specs.Searching.{plain_settings, last_answer, answer_text, search_text}
use Rattle.reports.specs.Zeros.{part_length}
use Rattle.reports.specs.Room.{line_ends as text_ends}

-- the text stands in `left` from place i on and ends before place j; all else is as in `found`
pub record Put (text found : List ℕ) (i : ℕ) (left : List ℕ) (j : ℕ) : Type 0 where
  pub ends : j ≡ i + length text
  pub stands : left ≡ sets found i text

pub sets-append : (xs ys l : List ℕ) (i : ℕ) → sets (sets l i xs) (i + length xs) ys ≡ sets l i (xs ++ ys)
sets-append [] ys l i = ap (λ (k : ℕ). sets l k ys) (omega arith)
sets-append (x ∷ xs) ys l i =
    ap (λ (k : ℕ). sets (sets (set l i x) (suc i) xs) k ys) (omega arith) ∙ sets-append xs ys (set l i x) (suc i)

-- ---- one piece after another

pub append : {xs ys k l m : List ℕ} {h i j : ℕ} → Put xs k h l i → Put ys l i m j → Put (xs ++ ys) k h m j
append {xs} {ys} {k} {l} {m} {h} {i} {j} p q =
    record {
      ends = omega (arith, p.ends, q.ends, length-append xs ys);
      stands =
          q.stands ∙ ap (λ (r : List ℕ). sets r i ys) p.stands ∙ ap (λ (n : ℕ). sets (sets k h xs) n ys) p.ends
          ∙ sets-append xs ys k h;
    }

-- nothing yet
pub none : (l : List ℕ) (i : ℕ) → Put [] l i l i
none l i = record { ends = omega arith; stands = refl }

-- one byte
pub byte : (l : List ℕ) (i x : ℕ) → Put (x ∷ []) l i (set l i x) (i + 1)
byte l i x = record { ends = refl; stands = refl }

-- one byte more of a list
pub one_more : {k l : List ℕ} {h j : ℕ} (xs : List ℕ) (i : ℕ) → i < length xs → Put (take i xs) k h l j
    → Put (take (i + 1) xs) k h (set l j (get_or xs i 0)) (j + 1)
one_more {k} {l} {h} {j} xs i b p =
    rw (add-one, take-suc xs i 0) (append p (byte l j (get_or xs i 0)))

pub whole : {xs k l : List ℕ} {h i j : ℕ} → length xs ≤ i → Put (take i xs) k h l j → Put xs k h l j
whole {xs} {k} {l} {h} {i} {j} b p = rw (take_all i xs b) at p

-- a text put at the start
pub at_start : {xs k l : List ℕ} {j : ℕ} (most : ℕ) → Put xs k 0 l j → j ≤ most → (j ≡ length xs) × (j ≤ most) × (l ≡ sets k 0 xs)
at_start most p h = (omega (arith, p.ends), h, p.stands)

-- ---- a number, digit by digit

pub put-digit : {k l : List ℕ} {i j x : ℕ} (n : ℕ) → n < 10 → x ≡ 48 + n → Put (x ∷ []) k i l j → Put (decimal n) k i l j
put-digit n h e p = rw (decimal_digit n h, ← e) p

pub put-more : {k l m : List ℕ} {h i j x : ℕ} (n : ℕ) → 10 ≤ n → x ≡ 48 + n % 10
    → Put (decimal (n / 10)) k h l i → Put (x ∷ []) l i m j → Put (decimal n) k h m j
put-more n h e p q = rw (decimal-more n h, ← e) (append p q)

pub put_positive : {k l : List ℕ} {i j n : ℕ} (z : ℤ) → lt_z z (pos 0) ≡ false → n ≡ nat_abs z
    → Put (decimal n) k i l j → Put (signed_decimal z) k i l j
unfolding signed_decimal
put_positive (pos m) h e p = rw (← e) p
put_positive (negsuc m) h e p = absurd (true≢false h)

pub put_negative : {k l m : List ℕ} {h i j n : ℕ} (z : ℤ) → lt_z z (pos 0) ≡ true → n ≡ nat_abs z
    → Put (45 ∷ []) k h l i → Put (decimal n) l i m j → Put (signed_decimal z) k h m j
unfolding signed_decimal
put_negative (pos w) t e p q = absurd (let b : w < 0 = ltb-true w 0 t in omega arith)
put_negative (negsuc w) t e p q = rw (← e) (append p q)

-- ---- the lines of the edges

module _ (g : Graph) (v : Valid g) (k : ℕ) (h : k < g.m) where
  -- one line more
  pub line_more : {l m out : List ℕ} {i j p : ℕ} (rulings : List ℕ)
      → Put (edge_lines g rulings k) out p l i
      → Put (edge_line (k + 1) (get_or g.a k 0) (get_or g.b k 0) (get_or rulings k 0)) l i m j
      → Put (edge_lines g rulings (k + 1)) out p m j
  unfolding edge_lines
  line_more rulings q r = rw add-one (append q (rw add-one at r))

  -- and where it ends
  pub line_ends : {l m : List ℕ} {i j : ℕ} (w : ℕ) → i ≤ 56 + 21 * k
      → Put (edge_line (k + 1) (get_or g.a k 0) (get_or g.b k 0) w) l i m j → j ≤ 56 + 21 * (k + 1)
  line_ends w b q = omega (arith, q.ends, text_ends g v k h w b)

-- ---- the whole texts, of lists that are the first places of longer lists of zeros

pub rules_put : {k l : List ℕ} {i j : ℕ} (g : Graph) → Valid g → (ceiling : ℤ)
    → Put
    (reply_text g ceiling
    (rule_reply_over g (take g.n (replicate max_vertices (pos 0))) (take g.n (replicate max_vertices 0)) ceiling plain_denominator
    (length {A = ℕ} (take g.m (replicate max_edges 0))))
    (rule_leaves_over g (take g.n (replicate max_vertices (pos 0))) (take g.n (replicate max_vertices 0)) ceiling plain_denominator
    (take g.m (replicate max_edges 0))))
    k i l j
    → Put (rules_text ceiling g) k i l j
unfolding rules_text
rules_put g v ceiling p =
    rw (
      take-replicate g.n max_vertices (pos 0) v.high,
      take-replicate {X = ℕ} g.n max_vertices 0 v.high,
      part_length {A = ℕ} max_edges g.m 0 v.few,
      take-replicate {X = ℕ} g.m max_edges 0 v.few,
    ) at p

pub search-put : {k l : List ℕ} {i j : ℕ} (g : Graph) → Valid g → (ceiling : ℤ) (a : Answer)
    → a ≡ last_answer (opening_of g (take g.n (replicate max_vertices (pos 0))) (take g.n (replicate max_vertices 0)) (plain_settings ceiling))
    → Put (answer_text a) k i l j
    → Put (search_text ceiling g) k i l j
search-put g v ceiling a e p =
    rw (← (rw (take-replicate g.n max_vertices (pos 0) v.high, take-replicate {X = ℕ} g.n max_vertices 0 v.high) at e)) p

-- ---- the part of an input that is its chart

pub chart-part : (input : List ℕ) → take (length input - ceiling_size) (drop ceiling_size input) ≡ chart_of input
unfolding chart_of
chart-part input = take_all (length input - ceiling_size) (drop ceiling_size input) (omega (arith, length-drop ceiling_size input))
