-- Laws of pages and sheets: each action goes part by part, and where there is room nothing is lost.
use Rattle.std.specs.Prelude.{ℕ, suc, ◌+◌, ◌^◌, ◌≤◌, ◌<◌, ◌≡◌, refl, Bool, true, false, cond, List, [], ◌∷◌, ◌++◌, Option, Some, None, eqb, length, set}
use Rattle.std.proofs.Common.{sym, ◌∙◌, add-zero, add-one, arith, length-set, lt-ltb, le-ltb}
use Rattle.std.proofs.Math.Path.{ap}
use Rattle.std.proofs.lemmas.List.Edits.{sets}
use Rattle.std.proofs.Math.Seq.{set_out}
use Rattle.wire.specs.declared.runs.Run.{Run}
use Rattle.wire.specs.Numbers.{five, crc_width, crc_generator}
use Rattle.wire.proofs.CrcLaws.{crc-append}
use Rattle.wire.specs.Stuffing.{ran, ran_from, Coded, dynamic, Sample, frame, stuff, wire, opposite, code_from, all}
use Rattle.wire.proofs.StuffingLaws.{wire-append, all-append, run_after, code-append}
use Rattle.writer.specs.declared.page.Pen.{Pen}
use Rattle.writer.specs.declared.page.Page.{Page}
use Rattle.writer.specs.declared.sheet.Sheet.{Sheet}
use Rattle.writer.specs.declared.coding.Coding.{Coding}
use Rattle.writer.specs.declared.coding.Coding.TheVariants.{Dynamic, Plain}
use Rattle.writer.specs.Pages.{page, mark, marks, coded_bit, due_before, drawn, laid}

-- SAMPLES

pub marks-append : (s : Page) (xs ys : List ℕ) → marks s (xs ++ ys) ≡ marks (marks s xs) ys
marks-append s [] ys = refl
marks-append s (x ∷ xs) ys = marks-append (mark s x) xs ys

pub marks-run : (s : Page) (xs : List ℕ) → (marks s xs).pen.run ≡ ran_from s.pen.run xs
marks-run s [] = refl
marks-run s (x ∷ xs) = marks-run (mark s x) xs

pub marks-length : (s : Page) (xs : List ℕ) → length (marks s xs).out ≡ length s.out
marks-length s [] = refl
marks-length s (x ∷ xs) = marks-length (mark s x) xs ∙ length-set s.out s.pen.at x

module _ (o : List ℕ) (p : Pen) (b : ℕ) (u : Run) (e : u ≡ ran p.run b) where
  pub mark-inside : p.at < length o → page (set o p.at b) (record { at = p.at + 1; run = u }) ≡ marks (page o p) (b ∷ [])
  mark-inside h = rw (e, lt-ltb p.at (length o) h)

  pub mark-outside : length o ≤ p.at → page o (record { at = p.at; run = u }) ≡ marks (page o p) (b ∷ [])
  mark-outside h = rw (e, le-ltb p.at (length o) h, set_out o p.at b h)

-- where there is room for them samples stand one behind another, and the pen behind the last
pub marks-at : (s : Page) (xs : List ℕ) → s.pen.at + length xs ≤ length s.out → (marks s xs).pen.at ≡ s.pen.at + length xs
marks-at s [] h = sym (add-zero s.pen.at)
marks-at s (x ∷ xs) h =
    let inside : (mark s x).pen.at ≡ s.pen.at + 1 = rw (lt-ltb s.pen.at (length s.out) (omega arith)) in
    marks-at (mark s x) xs (rw (inside, length-set s.out s.pen.at x) (omega arith)) ∙ rw inside (omega arith)

pub marks_out : (s : Page) (xs : List ℕ) → s.pen.at + length xs ≤ length s.out → (marks s xs).out ≡ sets s.out s.pen.at xs
marks_out s [] h = refl
marks_out s (x ∷ xs) h =
    let inside : (mark s x).pen.at ≡ suc s.pen.at = rw (lt-ltb s.pen.at (length s.out) (omega arith)) (add-one s.pen.at) in
    marks_out (mark s x) xs (rw (inside, length-set s.out s.pen.at x) (omega arith))
    ∙ ap (λ (n : ℕ). sets (set s.out s.pen.at x) n xs) inside

-- BITS

pub drawn-append : (s : Page) (xs ys : List Coded) → drawn s (xs ++ ys) ≡ drawn (drawn s xs) ys
unfolding drawn
drawn-append s xs ys =
    let u : Run = s.pen.run in
    let a : List ℕ = wire (code_from u xs) in
    ap (λ (l : List Sample). marks s (wire l)) (code-append u xs ys)
    ∙ ap (marks s) (wire-append (code_from u xs) (code_from (run_after u xs) ys))
    ∙ marks-append s a (wire (code_from (run_after u xs) ys))
    ∙ ap (λ (v : Run). marks (marks s a) (wire (code_from v ys))) (sym (marks-run s a))

pub drawn-length : (s : Page) (xs : List Coded) → length (drawn s xs).out ≡ length s.out
unfolding drawn
drawn-length s xs = marks-length s (wire (code_from s.pen.run xs))

-- what is due, as samples
abbrev owed : Option ℕ → List ℕ
owed None = []
owed (Some b) = b ∷ []

owed-sent : (how : Coding) (u : Run) (b : ℕ) → wire (code_from u (coded_bit how b ∷ [])) ≡ owed (due_before how u) ++ (b ∷ [])
owed-sent Plain u b = refl
owed-sent Dynamic u b = go (eqb u.len five)
  where
    go : (t : Bool) → wire (cond t (record { why = stuff; bit = opposite u.last } ∷ []) [] ++ (record { why = frame; bit = b } ∷ []) ++ [])
        ≡ owed (cond t (Some (opposite u.last)) None) ++ (b ∷ [])
    go true = refl
    go false = refl

-- a stuff bit is 0 or 1, and so a byte
pub owed_byte : (how : Coding) (u : Run) (d : Option ℕ) (x : ℕ) → d ≡ due_before how u → d ≡ Some x → x < 2 ^ 8
owed_byte Plain u d x e q = absurd (let z : ◌≡◌ {A = ℕ} 0 1 = cc in omega arith)
owed_byte Dynamic u d x e q = go (eqb u.len five) (sym e ∙ q)
  where
    go : (t : Bool) → cond t (Some (opposite u.last)) None ≡ Some x → x < 2 ^ 8
    go true q = let z : opposite u.last ≡ x = cc in omega arith
    go false q = absurd (let z : ◌≡◌ {A = ℕ} 0 1 = cc in omega arith)

module _ (s : Page) (how : Coding) (d : Option ℕ) (b : ℕ) (told : d ≡ due_before how s.pen.run) where
  drawn_bit : drawn s (coded_bit how b ∷ []) ≡ marks s (owed d ++ (b ∷ []))
  unfolding drawn
  drawn_bit = ap (marks s) (owed-sent how s.pen.run b) ∙ ap (λ (e : Option ℕ). marks s (owed e ++ (b ∷ []))) (sym told)

  pub bit_alone : (t : Page) → d ≡ None → t ≡ marks s (b ∷ []) → t ≡ drawn s (coded_bit how b ∷ [])
  bit_alone t e p = p ∙ sym (drawn_bit ∙ ap (λ (e : Option ℕ). marks s (owed e ++ (b ∷ []))) e)

  pub bit_behind : (x : ℕ) (t v : Page) → d ≡ Some x → t ≡ marks s (x ∷ []) → v ≡ marks t (b ∷ []) → v ≡ drawn s (coded_bit how b ∷ [])
  bit_behind x t v e p q = rw (q, p) (sym (drawn_bit ∙ ap (λ (e : Option ℕ). marks s (owed e ++ (b ∷ []))) e))

-- SHEETS

pub laid-append : (s : Sheet) (xs ys : List ℕ) → laid s (xs ++ ys) ≡ laid (laid s xs) ys
unfolding laid
laid-append s xs ys =
    rw (all-append dynamic xs ys, drawn-append s.page (all dynamic xs) (all dynamic ys), crc-append crc_width crc_generator s.crc xs ys)

pub laid-nil : (s : Sheet) → laid s [] ≡ s
unfolding laid drawn
laid-nil s = refl

pub laid-length : (s : Sheet) (xs : List ℕ) → length (laid s xs).page.out ≡ length s.page.out
unfolding laid
laid-length s xs = drawn-length s.page (all dynamic xs)
