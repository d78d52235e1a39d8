-- What the code tells of a file and of its rows, in the words of the rules.
use Rattle.std.specs.Prelude.{◌≡◌, true, false, List, ℕ, Option, Some, None, Result, Ok, Err, MatchResult}
use Rattle.answers.specs.declared.refusal.Refusal.{Refusal}
use Rattle.answers.specs.declared.refusal.Refusal.TheVariants.{BadFile}
use Rattle.link_form.specs.declared.kind.Kind.{Kind}
use Rattle.link_form.specs.declared.form as code
use Rattle.link_form.specs.File.{header_kept, kind_of, Scan, Broken, Listed, Form, Malformed, Described}
use Rattle.link_form.specs.Kinds.{number_of_kind}

-- what a header tells: its kind, or 9 where it is not whole
abbrev pub HeaderTells : List ℕ → Result Kind Refusal → Type 0
HeaderTells bytes r =
    MatchResult r (λ kind. (header_kept bytes ≡ true) × (number_of_kind kind ≡ kind_of bytes)) (λ refusal. (header_kept bytes ≡ false) × (refusal ≡ BadFile))

-- how many variables the rows list, if they are all there
abbrev pub scan_told : Option ℕ → Scan
scan_told None = Broken
scan_told (Some t) = Listed t

abbrev pub described_by : code.Form.Form → Form
described_by f = Described (number_of_kind f.kind) f.n f.m f.t

abbrev pub form_told : Result code.Form.Form Refusal → Form
form_told (Ok f) = described_by f
form_told (Err refusal) = Malformed
