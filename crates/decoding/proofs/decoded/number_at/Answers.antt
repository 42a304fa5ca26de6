use Rattle.std.proofs.Common.{Err, ap, ◌∙◌}
use Rattle.decoding.proofs.Decoding.{ends_padded, ends_kept}
use Rattle.decoding.proofs.decoded.number_at.Goals as goal

pub returns-then-group-gt0 : goal.returns-then-group-gt0
returns-then-group-gt0 c =
    ap Err c.new.ensures
    ∙ ends_padded _ _ _ _ _ _ c.loop-group.invariant c.first_four-bytes.ensures c.loop-group-test.true c.from-byte.ensures c.if-byte-lt128.true c.if-group-gt0.true c.if-byte-eq0.true

pub returns-then-byte-lt128 : goal.returns-then-byte-lt128
returns-then-byte-lt128 c =
    ends_kept _ _ _ _ _ _ c.loop-group.invariant c.first_four-bytes.ensures c.loop-group-test.true c.from-byte.ensures c.if-byte-lt128.true c.else-byte-eq0.either
