use Rattle.std.proofs.Common.{◌+◌, length, get_or, take, sym, ap, ◌∙◌, arith, length-append, length-take, length-drop}
use Rattle.writer.specs.Descriptors.{in_form}
use Rattle.writer.specs.Numbers.{groups}
use Rattle.writer.proofs.Forms.{form_more, form_front}
use Rattle.writer.proofs.Writes.{done_more, done_as, written_from}
use Rattle.writer.proofs.writer.put_numbers.Goals as goal

pub put_number-end-requires : goal.put_number-end-requires
put_number-end-requires c =
    let i = c.loop-n.n-index in
    let ns = c.args.numbers.now in
    let long = ap length (form_more ns i c.loop-n-test.true) ∙ length-append (in_form (take i ns)) (groups (get_or ns i 0)) in
    let front = form_front ns (i + 1) in
    simp (length-take, length-drop) (omega (arith, c.requires))

pub loop-n-preserved : goal.loop-n-preserved
loop-n-preserved c =
    let i = c.loop-n.n-index in
    let ns = c.args.numbers.now in
    let front = form_front ns i in
    done_as c.args.bytes.now _ _ _ _ (sym (form_more ns i c.loop-n-test.true))
    (done_more c.args.bytes.now (in_form (take i ns)) (groups (get_or ns i 0)) c.loop-n.bytes _ c.loop-n.end _ c.loop-n.invariant
    (omega (arith, c.put_number-end.ensures.len))
    (written_from c.loop-n.bytes c.put_number-end.new.bytes c.loop-n.end (get_or ns i 0) (omega (arith, c.requires)) c.put_number-end.ensures.after))
