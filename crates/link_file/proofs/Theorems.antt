-- What the text of a file says.
use mathlib.Core.Path.{◌≡◌, refl, sym, ap, ◌∙◌}
use mathlib.Core.Bool.{Bool, true, false}
use mathlib.Core.List.{List, ◌++◌}
use mathlib.Core.Option.{Option, none, some}
use Prim.Native.Nat.{ℕ, ◌≤◌}
use native.Mathlib.Omega.{arith}
use lib.ListN.{length, length-append}
use lib.Dec.{leb}
use borrow.Author.Tests.{leb-true}
use Rattle.gf2.specs.Equation.{MeetsAll}
use Rattle.areas.specs.Stretch.{put}
use Rattle.areas.proofs.Stretch.{length-put}
use Rattle.answers.specs.Calls.{pick}
use Rattle.answers.specs.Answers.{Solved}
use Rattle.system.specs.Fits.{listed_in}
use Rattle.link_form.specs.File.{Link, read_file, write_file}
use Rattle.link_form.specs.Fitting.{LinkFits}
use Rattle.link_lines.specs.Lines.{header_line, answer_line, value_lines}
use Rattle.link_form.proofs.OneFile.{link_written}
use Rattle.link_form.proofs.Loadable.{Loadable, loadable}
use Rattle.link_lines.proofs.Lining.{header_short, answer_short, solved_text}
use Rattle.link_lines.specs.Outcomes.{outcome, outcome_text}
use Rattle.link_file.specs.Text.{version, answered, file_link, text_of, file_text, link_text, most_text, LinkCall, link_call}
use Rattle.link_file.proofs.Texts.{answered_solves, answered_fits}

-- a link that fits is answered as exactly the call on the system that it describes
pub text_of_link : (f : Link) → LinkFits f → link_text (write_file f) ≡ text_of f
unfolding link_text
text_of_link f l = rw (link_written f l)

-- the text follows from the link that is read
pub text_of_file : (bytes : List ℕ) (f : Link) → read_file bytes ≡ some f → link_text bytes ≡ text_of f
unfolding link_text
text_of_file bytes f e = rw e

described : (bytes : List ℕ) (f : Link) → read_file bytes ≡ some f → Loadable bytes f.kind f.n (length f.rows) (listed_in f.rows)
described bytes f e = loadable bytes f.kind f.n (length f.rows) (listed_in f.rows) (rw e)

-- the link that is described is the one that was read
same_link : (bytes : List ℕ) (f : Link) → read_file bytes ≡ some f → file_link f.kind f.n (length f.rows) bytes ≡ f
same_link bytes f e = let q : some (file_link f.kind f.n (length f.rows) bytes) ≡ some f = sym (described bytes f e).link ∙ e in cc

-- no text is longer than the longest
pub text_fits : (bytes : List ℕ) → length (link_text bytes) ≤ most_text
unfolding link_text text_of
text_fits bytes = go (read_file bytes) refl
  where
    go : (o : Option Link) → read_file bytes ≡ o → length (file_text o) ≤ most_text
    go none e = let a = answer_short 9 0 in omega arith
    go (some f) e =
        let a = header_short version f.kind f.n (length f.rows) in
        let b = rw (same_link bytes f e) at (answered_fits (described bytes f e)) in
        let c = length-append (header_line version f.kind f.n (length f.rows)) (outcome_text (answered f)) in
        omega arith

-- after 0 the values that are printed are n, and meet every row of the file, whatever its kind
pub record TextSolves (bytes : List ℕ) (f : Link) : Type 0 where
  pub values : List ℕ
  pub many : length values ≡ f.n
  pub meets : MeetsAll values f.rows
  pub text : link_text bytes ≡ header_line version f.kind f.n (length f.rows) ++ (answer_line 0 0 ++ value_lines values)

pub text_solves : (bytes : List ℕ) (f : Link) → read_file bytes ≡ some f → (answered f).answer ≡ Solved → TextSolves bytes f
unfolding text_of
text_solves bytes f e h =
    let is = same_link bytes f e in
    let l = described bytes f e in
    let s = answered_solves l (rw is h) in
    let values : List ℕ = (answered f).values in
    record {
      values = values;
      many = rw is at s.1;
      meets = meets (rw is at s.2);
      text = text_of_file bytes f e ∙ ap (λ (t : List ℕ). header_line version f.kind f.n (length f.rows) ++ t) told;
    }
  where
    meets : MeetsAll (answered f).values (file_link f.kind f.n (length f.rows) bytes).rows → MeetsAll (answered f).values f.rows
    meets = rw (ap (λ (g : Link). g.rows) (same_link bytes f e)) (λ m. m)

    told : outcome_text (answered f) ≡ answer_line 0 0 ++ value_lines (answered f).values
    told = ap (λ r. outcome_text (outcome r (answered f).values)) h ∙ sym (solved_text Solved (answered f).values refl)

-- what is written lies within what was lent
call_within : (bytes out : List ℕ) → (link_call bytes out).written ≤ length (link_call bytes out).out
unfolding link_call
call_within bytes out = go (leb most_text (length out)) refl
  where
    call : Bool → LinkCall
    call b = pick b (record { written = length (link_text bytes); out = put 0 (link_text bytes) out }) (record { written = 0; out = out })

    go : (b : Bool) → leb most_text (length out) ≡ b → (call b).written ≤ length (call b).out
    go true e =
        let f = text_fits bytes in
        let h = leb-true most_text (length out) e in
        let l = length-put 0 (link_text bytes) out (omega arith) in
        omega arith
    go false e = omega arith

pub written_within : {r : ℕ} {then : List ℕ} (bytes out : List ℕ) → r ≡ (link_call bytes out).written → then ≡ (link_call bytes out).out → r ≤ length then
written_within bytes out e q = rw (e, q) (call_within bytes out)
