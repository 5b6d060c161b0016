use Rattle.std.proofs.Common.{◌≡◌, List, ap, length, length-set, refl, sym, subst, ◌∙◌}
use Rattle.std.specs.Prelude.{ℕ, Bool, ◌<◌, false, true, Contains}
use Rattle.std.specs.Vec.{with_item, with_items}
use Rattle.std.proofs.lemmas.List.{length-map, with_items_is}
use Rattle.temp_code.specs.Routines.{block_of, routine_of}
use Rattle.flow_live.specs.declared.rows.Row.{Row}
use Rattle.flow_live.specs.declared.settling.Settling.{Settling}
use Rattle.flow_live.specs.Walks.{dead_at}
use Rattle.flow_live.specs.Settled.{HaveWords, LooksAt, is_waiting}
use Rattle.flow_live.proofs.Sweeping.{step_still, step_fell}
use Rattle.flow_live.proofs.settling.Settling.step.Goals as goal

pub returns-then-not-look_at-clause-goes : goal.returns-then-not-look_at-clause-goes
returns-then-not-look_at-clause-goes c =
    step_still c.args.code.now c.args.flow.now c.args.standing.now c.args.self.now new c.args.at
    (subst (λ (n : ℕ). c.args.at < n) (sym (length-map c.args.code.now.blocks block_of)) c.requires.block) refl c.look_at.ensures.words
    (λ k x. ap (λ (rows : List Row). dead_at rows k x) begins ∙ c.look_at.ensures.same c.if-not-look_at.true k x ∙ ap (λ (rows : List Row). dead_at rows k x) c.as_mut_slice.ensures.value)
    (λ t words stands flow sized row. subst (λ (rows : List Row). LooksAt t (routine_of c.args.code.now) words c.args.at c.args.self.now.begins.items rows) (sym begins)
    (subst (λ (rows : List Row). LooksAt t (routine_of c.args.code.now) words c.args.at rows c.look_at.new.begins) c.as_mut_slice.ensures.value
    (c.look_at.ensures.looks t words stands flow (subst (HaveWords words) (sym c.as_mut_slice.ensures.value) sized) row)))
  where
    new : Settling
    new = record { begins = with_items c.args.self.now.begins c.look_at.new.begins; waiting = with_item c.args.self.now.waiting c.args.at false; row = c.look_at.new.row }

    begins : (with_items c.args.self.now.begins c.look_at.new.begins).items ≡ c.look_at.new.begins
    begins = with_items_is c.args.self.now.begins c.look_at.new.begins (c.look_at.ensures.count ∙ ap length c.as_mut_slice.ensures.value ∙ sym c.args.self.now.begins.ok.0)

pub returns-clause-goes : goal.returns-clause-goes
returns-clause-goes c =
    step_fell c.args.code.now c.args.flow.now c.args.standing.now c.args.self.now new c.args.at
    (subst (λ (n : ℕ). c.args.at < n) (sym (length-map c.args.code.now.blocks block_of)) c.requires.block)
    (ap length waiting ∙ long ∙ c.requires.fits.waiting ∙ sym (length-map c.args.code.now.blocks block_of)) c.look_at.ensures.words
    (λ k e. subst (λ (ws : List Bool). is_waiting ws k ≡ true) (sym waiting)
    (c.mark.ensures.kept k (subst (λ (ws : List Bool). is_waiting ws k ≡ true) (sym c.as_mut_slice-2.ensures.value) e)))
    (λ k l has. subst (λ (ws : List Bool). is_waiting ws k ≡ true) (sym waiting)
    (c.mark.ensures.set k (subst (λ (n : ℕ). k < n) (ap length waiting ∙ c.mark.ensures.count) l) (subst (λ (ks : List ℕ). Contains ks k) (sym c.previous_at.ensures) has)))
    (λ t words stands flow sized row. subst (λ (rows : List Row). LooksAt t (routine_of c.args.code.now) words c.args.at c.args.self.now.begins.items rows) (sym begins)
    (subst (λ (rows : List Row). LooksAt t (routine_of c.args.code.now) words c.args.at rows c.look_at.new.begins) c.as_mut_slice.ensures.value
    (c.look_at.ensures.looks t words stands flow (subst (HaveWords words) (sym c.as_mut_slice.ensures.value) sized) row)))
  where
    new : Settling
    new = record {
      begins = with_items c.args.self.now.begins c.look_at.new.begins;
      waiting = with_items (with_item c.args.self.now.waiting c.args.at false) c.mark.new.waiting;
      row = c.look_at.new.row;
    }

    begins : (with_items c.args.self.now.begins c.look_at.new.begins).items ≡ c.look_at.new.begins
    begins = with_items_is c.args.self.now.begins c.look_at.new.begins (c.look_at.ensures.count ∙ ap length c.as_mut_slice.ensures.value ∙ sym c.args.self.now.begins.ok.0)

    long : length c.mark.new.waiting ≡ length c.args.self.now.waiting.items
    long = c.mark.ensures.count ∙ ap length c.as_mut_slice-2.ensures.value ∙ length-set c.args.self.now.waiting.items c.args.at false

    waiting : (with_items (with_item c.args.self.now.waiting c.args.at false) c.mark.new.waiting).items ≡ c.mark.new.waiting
    waiting = with_items_is (with_item c.args.self.now.waiting c.args.at false) c.mark.new.waiting (long ∙ sym c.args.self.now.waiting.ok.0)
