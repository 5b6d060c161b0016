-- A greater bound shows more output, or the stop that was seen already.
use Rattle.std.proofs.Common.{◌≡◌, ℕ, zero, suc, ◌+◌, ◌≤◌, List, [], Option, Some, None, Bool, true, false, if◌then◌else◌, nat_lt, slice_get, refl, sym, ap, subst, arith}
use Rattle.behaviour.specs.Behaviour.{IsPrefix, output, IsExtendedBy}
use Rattle.behaviour.proofs.Growth.{end_stands, failure_stands, ended_never_fails}
use Rattle.behaviour.proofs.Growth as growth
use Rattle.c_tree.specs.declared.token.At.{At}
use Rattle.c_tree.specs.declared.typed.Function.{Function}
use Rattle.c_tree.specs.declared.typed.Typed.{Typed}
use Rattle.c_meaning.specs.Parts.{Setting, Part, Gives, Cut, Fails, Value}
use Rattle.c_meaning.specs.Statements.{Does}
use Rattle.c_meaning.specs.Run.{enter, inside, world, taken, call_at, seen, at_start, begin, main_in}
use Rattle.c_meaning.specs.Laws.{EndsStand, FailuresStand, OutputGrows, SourceIsRun, EndedIsClean}
use Rattle.c_meaning.proofs.Below.{Below, All_below, out_of, same, cut_below, then_below}
use Rattle.c_meaning.proofs.Statements.{execution_below}

if_below : {A : Type 0} (b : Bool) (x p q : Part A) → Below p q → Below (if b then x else p) (if b then x else q)
if_below true x p q e = same x
if_below false x p q e = e

enter_below : (o : Option Function) (m : Setting) (used : ℕ) (f g : Function → Does) → ((h : Function) → All_below (f h) (g h)) → (at : At) (vs : List ℕ) → All_below (enter o m used f at vs) (enter o m used g at vs)
enter_below None m used f g each at vs s = same _
enter_below (Some h) m used f g each at vs s =
    if_below (nat_lt m.stack (256 + (used + m.takes h))) _ _ _ (then_below _ _ _ _ (each h (inside vs s)) (λ r s1. same _))

pub call_below : (m : Setting) (t : Typed) (n k : ℕ) → n ≤ k → (d e : ℕ) → d ≤ e → (used : ℕ) (at : At) (f : ℕ) (vs : List ℕ) → All_below (call_at m t n d used at f vs) (call_at m t k e used at f vs)
call_below m t n k le zero e de used at f vs s = cut_below _
call_below m t n k le (suc d) zero de used at f vs s = absurd (omega (arith, de))
call_below m t n k le (suc d) (suc e) de used at f vs s =
    let g = slice_get t.functions f in
    let low = call_at m t n d (used + taken m g) in
    let high = call_at m t k e (used + taken m g) in
    let ih : (a : At) (j : ℕ) (us : List ℕ) → All_below (low a j us) (high a j us) = call_below m t n k le d e (omega (arith, de)) (used + taken m g) in
    enter_below g m used _ _ (λ h. (execution_below (world m t low h) high ih n k le h.body).does) at vs s

pub extended : (p q : Part Value) → Below p q → IsExtendedBy (seen p) (seen q)
extended (Gives out v s) q b = ap seen b.goes
extended (Cut out) q b = subst (IsPrefix out) (sym (output_seen q)) b.goes
  where
    output_seen : (q : Part Value) → output (seen q) ≡ out_of q
    output_seen (Gives o v s) = refl
    output_seen (Cut o) = refl
    output_seen (Fails o why) = refl
extended (Fails out why) q b = ap seen b.goes

pub source_is_run : SourceIsRun
source_is_run m t input = record { extends = λ n k le. extended _ _ (call_below m t n k le n k le 0 begin (main_in t.functions) [] (at_start m.bits t input)) }

pub ends_stand : EndsStand
ends_stand m t input n k le out status = end_stands _ (source_is_run m t input) n k out status le

pub failures_stand : FailuresStand
failures_stand m t input n k le out why = failure_stands _ (source_is_run m t input) n k out why le

pub output_grows : OutputGrows
output_grows m t input n k le = growth.output_grows _ (source_is_run m t input) n k le

pub ended_is_clean : EndedIsClean
ended_is_clean m t input n out status = ended_never_fails _ (source_is_run m t input) n out status
