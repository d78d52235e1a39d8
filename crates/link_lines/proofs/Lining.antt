-- Texts written one behind the other, and how long they are at most.
use mathlib.Core.Path.{◌≡◌, refl, sym, ◌∙◌}
use mathlib.Core.List.{List, [], ◌∷◌, ◌++◌, append-nil, append_assoc}
use Prim.Native.Nat.{ℕ, ◌+◌, ◌*◌, ◌≤◌, ◌<◌}
use native.Mathlib.Nat.{suc-mul}
use native.Mathlib.Numerals.{add-one}
use native.Mathlib.Omega.{arith}
use lib.ListN.{length, take, get_or, length-append}
use lib.Seq.{take-suc}
use borrow.Author.Tests.{eq-eqb, ne_eqb}
use Rattle.areas.proofs.Stretch.{put_none, put_then}
use Rattle.answers.specs.Answers.{Answer}
use Rattle.answers.specs.Numbers.{number_of}
use Rattle.link_lines.specs.declared.text.Text.{Text}
use Rattle.link_lines.specs.Decimal.{decimal}
use Rattle.link_lines.specs.Lines.{newline, ended, header_line, answer_line, value_lines, most_ended, most_header, most_answer}
use Rattle.link_lines.specs.Outcomes.{outcome, refusal_text, outcome_text}
use Rattle.link_lines.specs.Text.{Adds}
use Rattle.link_lines.proofs.Said.{few_digits}

-- ---- one text behind the other

pub adds_none : (t : Text) → t.end ≤ length t.out.now → Adds [] t t
adds_none t h = record { same = refl; end = omega arith; out = sym (put_none t.end t.out.now); room = h; long = refl }

pub adds_more : {a b : List ℕ} {s t u : Text} → Adds a s t → Adds b t u → Adds (a ++ b) s u
adds_more {a} {b} {s} {t} {u} f g =
    let l = length-append a b in
    let e = f.end in
    let r = f.room in
    let n = f.long in
    record {
      same = g.same ∙ f.same;
      end = omega (arith, g.end);
      out = g.out ∙ rw (f.end, f.out) (put_then s.end a b s.out.now (omega arith));
      room = g.room;
      long = g.long ∙ f.long;
    }

-- ---- how long a text is at most

pub ended_short : (x end : ℕ) → length (ended x end) ≤ most_ended
unfolding ended
ended_short x end = let a = length-append (decimal x) (end ∷ []) in let b = few_digits x in omega arith

pub header_short : (version kind n m : ℕ) → length (header_line version kind n m) ≤ most_header
unfolding header_line
header_short version kind n m =
    let a = ended_short version 32 in
    let b = ended_short kind 32 in
    let c = ended_short n 32 in
    let d = ended_short m 10 in
    simp length-append (omega arith)

pub answer_short : (number place : ℕ) → length (answer_line number place) ≤ most_answer
unfolding answer_line
answer_short number place =
    let a = ended_short number 32 in
    let b = ended_short place 10 in
    simp length-append (omega arith)

pub values_short : (vs : List ℕ) → length (value_lines vs) ≤ length vs * most_ended
unfolding value_lines
values_short [] = omega arith
values_short (v ∷ vs) =
    let a = ended_short v 10 in
    let b = values_short vs in
    let c = suc-mul (length vs) most_ended in
    let d = length-append (ended v 10) (value_lines vs) in
    omega arith

-- ---- the values, one a line

values_snoc : (vs : List ℕ) (v : ℕ) → value_lines (vs ++ (v ∷ [])) ≡ value_lines vs ++ ended v newline
unfolding value_lines
values_snoc [] v = append-nil (ended v newline)
values_snoc (u ∷ vs) v = rw (values_snoc vs v, append_assoc (ended u newline) (value_lines vs) (ended v newline))

-- i of the values are told
pub record Listing (values : List ℕ) (begin now : Text) (i : ℕ) : Type 0 where
  pub low : now.end ≤ begin.end + i * most_ended
  pub so_far : Adds (value_lines (take i values)) begin now

pub listing_begin : (values : List ℕ) (t : Text) → t.end ≤ length t.out.now → Listing values t t 0
unfolding value_lines
listing_begin values t h = record { low = omega arith; so_far = adds_none t h }

pub listing_turn : {values : List ℕ} {begin now next : Text} {i : ℕ} → Listing values begin now i → i < length values → Adds (ended (get_or values i 0) newline) now next
    → next.end ≤ now.end + most_ended → Listing values begin next (i + 1)
listing_turn {values} {begin} {now} {next} {i} l h a short = record {
  low = omega (arith, l.low);
  so_far = rw (add-one, take-suc values i 0 h, values_snoc (take i values) (get_or values i 0)) (adds_more l.so_far a);
}

-- ---- the values behind an answer, or none

pub solved_text : (answer : Answer) (values : List ℕ) → number_of answer ≡ 0 → refusal_text answer ++ value_lines values ≡ outcome_text (outcome answer values)
unfolding outcome_text
solved_text answer values e = rw (eq-eqb (number_of answer) 0 e)

pub refused_text : (answer : Answer) (values : List ℕ) → (number_of answer ≡ 0 → ⊥) → refusal_text answer ≡ outcome_text (outcome answer values)
unfolding outcome_text
refused_text answer values f = rw (ne_eqb (number_of answer) 0 f) (sym (append-nil (refusal_text answer)))
