use Rattle.std.specs.Prelude.{◌≡◌, ◌<◌, ℕ, true, length, take, Contains}
use Rattle.flow_live.specs.Settled.{is_waiting}
use Rattle.flow_live.proofs.settling.mark.Given as goal

abbrev pub invariant-loop-i : goal.invariant-loop-i
invariant-loop-i l =
    (length l.waiting ≡ length l.fn.waiting)
    × ((k : ℕ) → is_waiting l.fn.waiting k ≡ true → is_waiting l.waiting k ≡ true)
    × ((k : ℕ) → k < length l.fn.waiting → Contains (take l.i l.blocks) k → is_waiting l.waiting k ≡ true)
