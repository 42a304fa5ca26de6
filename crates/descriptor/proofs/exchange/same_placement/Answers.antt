use Rattle.std.proofs.Common.{◌≡◌, Ok, rules}
use Rattle.std.proofs.lemmas.Bool.Decides.{Decides-eqb}
use Rattle.std.proofs.lemmas.Slice.Eq.{slice_eq-Decides}
use Rattle.layouts.specs.Layouts.{layout_plan}
use Rattle.decoding.specs.Laws.{Bytes}
use Rattle.decoding.specs.Reading.{accepted}
use Rattle.decoding.proofs.OneForm.{one_form}
use Rattle.descriptor.proofs.Compared.{compared_both}
use Rattle.descriptor.proofs.exchange.same_placement.Goals as goal

pub returns-in_err-map_err-clause-law : goal.returns-in_err-map_err-clause-law
returns-in_err-map_err-clause-law c = one_form

pub returns-in_err-map_err-2-clause-law : goal.returns-in_err-map_err-2-clause-law
returns-in_err-map_err-2-clause-law c = one_form

pub returns-clause-law : goal.returns-clause-law
returns-clause-law c = one_form

pub returns-clause-answer : goal.returns-clause-answer
returns-clause-answer c =
    let left : Bytes c.args.left.now = search rules in
    let right : Bytes c.args.right.now = search rules in
    let p : Ok (layout_plan c.in_ok-map_err.field-0) ≡ accepted c.args.left.now = search rules in
    let q : Ok (layout_plan c.in_ok-map_err-2.field-0) ≡ accepted c.args.right.now = search rules in
    compared_both c.args.left.now c.args.right.now (layout_plan c.in_ok-map_err.field-0) (layout_plan c.in_ok-map_err-2.field-0) c.eq.result left right p q (slice_eq-Decides Decides-eqb c.args.left.now c.args.right.now c.eq.result c.eq.ensures)
