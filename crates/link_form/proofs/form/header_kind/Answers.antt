use Rattle.std.proofs.Common.{sym, refl, inl, inr, ◌∙◌, arith}
use Rattle.link_form.proofs.Header.{too_long, too_short, other_mark, other_version, header_tells, marked}
use Rattle.link_form.proofs.form.header_kind.Goals.{then-not-starts_with-via-then-not-starts_with, then-not-starts_with-via-else-not-starts_with+then-read_number-ne-VERSION}
use Rattle.link_form.proofs.form.header_kind.Goals as goal

pub returns-then-bytes-lt-HEADER_BYTES-clause-tells : goal.returns-then-bytes-lt-HEADER_BYTES-clause-tells
returns-then-bytes-lt-HEADER_BYTES-clause-tells c =
    let b = c.args.bytes.now in
    elim c.then-bytes-lt-HEADER_BYTES.either [ inl short ↦ (too_short b short, refl) | inr long ↦ (too_long b long.1, refl) ]

pub returns-then-not-starts_with-clause-tells : goal.returns-then-not-starts_with-clause-tells
returns-then-not-starts_with-clause-tells c =
    let b = c.args.bytes.now in
    let m = marked b (λ i. omega (arith, c.type_inv.bytes i)) (omega arith) c.starts_with.result c.starts_with.ensures.value in
    elim c.then-not-starts_with.branch [
      | then-not-starts_with-via-then-not-starts_with w ↦ (other_mark b (m.1 w.if-not-starts_with.true), refl)
      | then-not-starts_with-via-else-not-starts_with+then-read_number-ne-VERSION w ↦
          (other_version b (λ e. w.if-read_number-ne-VERSION.true (w.read_number.ensures.value ∙ e)), refl)
    ]

pub returns-clause-tells : goal.returns-clause-tells
returns-clause-tells c =
    let b = c.args.bytes.now in
    let m = marked b (λ i. omega (arith, c.type_inv.bytes i)) (omega arith) c.starts_with.result c.starts_with.ensures.value in
    header_tells b c.read_number-2.result c.try_from.result c.try_from.ensures c.read_number-2.ensures.value c.if-bytes-gt-MAX_BYTES.false c.if-bytes-lt-HEADER_BYTES.false
    (m.0 c.if-not-starts_with.false) (sym c.read_number.ensures.value ∙ c.if-read_number-ne-VERSION.false)
