use Rattle.std.proofs.Common.{inl, inr, arith}
use Rattle.orders.proofs.Ordered.{Allowed, order_turns, order_other_way}
use Rattle.orders.proofs.orders.named.Goals as goal
use Rattle.orders.proofs.orders.named.Goals.{Else-inner-widest, then-letter-eq72, else-letter-eq72}

allowed : (c : Else-inner-widest) → Allowed c.args.letter c.args.inner
allowed c =
    elim c.if-letter-eq72.branch [
      | then-letter-eq72 w ↦ inl (w.if-letter-eq72.true, omega (arith, w.widest-is, c.if-inner-widest.false))
      | else-letter-eq72 w ↦ inr (w.if-letter-eq72.false, omega (arith, w.widest-is, c.if-inner-widest.false))
    ]

pub returns-in-Z : goal.returns-in-Z
returns-in-Z c =
    order_turns c.args.letter c.args.shape.rows c.args.shape.columns c.args.inner _ _ _
    (allowed (goal.at.returns-in-Z c).Else-inner-widest) c.positions-rows.ensures.rows c.positions-rows.ensures.columns c.at_positions.ensures c.in-Z.is

pub returns-in-N : goal.returns-in-N
returns-in-N c =
    order_other_way c.args.letter c.args.shape.rows c.args.shape.columns c.args.inner _ _ _
    (allowed (goal.at.returns-in-N c).Else-inner-widest) c.positions-rows.ensures.rows c.positions-rows.ensures.columns c.at_positions-in-N.ensures c.in-N.is
