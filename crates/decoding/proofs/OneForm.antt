-- The laws of descriptors.
use Rattle.std.proofs.Common.{sym, ap, ◌∙◌}
use Rattle.writer.specs.Descriptors.{bytes_of}
use Rattle.decoding.specs.Laws.{ExchangeLaw, OneForm}
use Rattle.decoding.specs.Reading.{accepted}
use Rattle.decoding.proofs.Accepted.{ok_same}
use Rattle.decoding.proofs.ReadBack.{read_back}
use Rattle.decoding.proofs.Unique.{same_plan, same_self}
use Rattle.decoding.proofs.WrittenBack.{written_back}

pub exchange_law : ExchangeLaw
exchange_law = record {
  read_again = read_back;
  one_placement = λ p q h e. same_self p q (ok_same p q (sym (read_back p h) ∙ e));
  legal = λ bs p h e. (written_back bs p h e).legal;
  written_again = λ bs p h e. (written_back bs p h e).again;
}

pub one_form : OneForm
one_form a b p q ha hb ea eb = (
  λ e. same_self p q (ok_same p q (sym ea ∙ ap accepted e ∙ eb)),
  λ s.
      let wa = written_back a p ha ea in
      let wb = written_back b q hb eb in
      wa.again ∙ ap bytes_of (same_plan p q wa.legal wb.legal s) ∙ sym wb.again,
)
