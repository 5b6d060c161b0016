use Rattle.std.proofs.Common.{◌≡◌, List, [], ◌∷◌, ap, arith, length, sym, subst, slice_index_or, ◌∙◌}
use Rattle.std.specs.Prelude.{ℕ, ◌+◌, Some, slice_get}
use Rattle.std.specs.Option.{option_map}
use Rattle.std.specs.Global.{Vec}
use Rattle.std.proofs.Common.{length-append}
use Rattle.std.proofs.lemmas.List.{length-map}
use Rattle.std.proofs.lemmas.Option.{slice_get_read, slice_get-map}
use Rattle.temp_machine.specs.Routines.{Target}
use Rattle.temp_machine.specs.Live.{IsLiveAfter}
use Rattle.temp_code.specs.declared.code.Block.{Block}
use Rattle.temp_code.specs.Routines.{block_of, routine_of}
use Rattle.flow_blocks.specs.Flows.{IsFlow}
use Rattle.flow_live.specs.declared.rows.Row.{Row}
use Rattle.flow_live.specs.Dead.{HoldsDead}
use Rattle.flow_live.specs.Rows.{Becomes, bits_in, is_held}
use Rattle.flow_live.specs.Walks.{HasLowFlags, Stands, dead_behind}
use Rattle.flow_live.specs.Settled.{AreBegins}
use Rattle.flow_live.specs.Tables.{AreBlockRows, AreTables}
use Rattle.flow_live.proofs.Walking.{place}
use Rattle.flow_live.proofs.Filling.{hold_behind}
use Rattle.flow_live.proofs.Blockwise.{mapped, tables_more}
use Rattle.flow_live.proofs.making.all_rows.Goals as goal

pub loop-at-preserved : goal.loop-at-preserved
loop-at-preserved c = (counted, all)
  where
    counted : length c.push.new.self.items ≡ c.loop-at.at + 1
    counted =
        ap length c.in_ok-push.ensures.items ∙ length-append c.loop-at.table.items (c.in_ok-block_rows.field-0 ∷ [])
        ∙ ap (λ (n : ℕ). n + 1) c.loop-at.invariant.0

    here : slice_get (routine_of c.args.code.now).blocks c.loop-at.at ≡ Some (block_of c.index-blocks-at.result)
    here =
        slice_get-map block_of c.args.code.now.blocks c.loop-at.at
        ∙ ap (option_map block_of) (slice_get_read c.args.code.now.blocks (length c.as_slice-blocks.result.now) c.loop-at.at c.index-blocks-at.result (ap length c.as_slice-blocks.ensures) c.loop-at-test.true
        (subst (λ (xs : List Block). c.index-blocks-at.result ≡ slice_index_or xs c.loop-at.at c.index-blocks-at.result) c.as_slice-blocks.ensures c.index-blocks-at.is))

    long : length c.go_behind.new.row.temporaries.items ≡ c.args.words
    long = c.go_behind.ensures.words ∙ c.in_ok-row.ensures.words

    holds : (t : Target) → Stands t (routine_of c.args.code.now) c.args.standing.now → IsFlow t.word (routine_of c.args.code.now) c.args.flow.now
        → length c.args.begins.now ≡ length c.args.code.now.blocks → AreBegins t (routine_of c.args.code.now) c.args.words c.args.begins.now
        → HoldsDead (is_held c.args.words) (bits_in c.go_behind.new.row) (λ x. IsLiveAfter t (routine_of c.args.code.now) x (place c.loop-at.at (length c.index-blocks-at.result.body)))
    holds t stands flow count begins =
        subst (λ (n : ℕ). HoldsDead (is_held c.args.words) (bits_in c.go_behind.new.row) (λ x. IsLiveAfter t (routine_of c.args.code.now) x (place c.loop-at.at n))) (mapped c.index-blocks-at.result)
        (hold_behind t (routine_of c.args.code.now) c.args.words c.args.begins.now c.loop-at.at (block_of c.index-blocks-at.result) (bits_in c.in_ok-row.row) (bits_in c.go_behind.new.row)
        c.in_ok-row.ensures.words (count ∙ sym (length-map c.args.code.now.blocks block_of)) begins here
        (subst (λ (ks : List ℕ). Becomes (dead_behind t (routine_of c.args.code.now) c.args.begins.now ks) (bits_in c.in_ok-row.row) (bits_in c.go_behind.new.row))
        (c.next_at.ensures ∙ flow.next c.loop-at.at) (c.go_behind.ensures.behind t (routine_of c.args.code.now) stands)))

    rows : (t : Target) → Stands t (routine_of c.args.code.now) c.args.standing.now → HasLowFlags (routine_of c.args.code.now) → IsFlow t.word (routine_of c.args.code.now) c.args.flow.now
        → length c.args.begins.now ≡ length c.args.code.now.blocks → AreBegins t (routine_of c.args.code.now) c.args.words c.args.begins.now
        → AreBlockRows t (routine_of c.args.code.now) c.args.words c.loop-at.at (block_of c.index-blocks-at.result) c.in_ok-block_rows.field-0.items
    rows t stands low flow count begins =
        subst (λ (n : ℕ). AreBlockRows t (routine_of c.args.code.now) n c.loop-at.at (block_of c.index-blocks-at.result) c.in_ok-block_rows.field-0.items) long
        (c.in_ok-block_rows.ensures t (routine_of c.args.code.now) c.loop-at.at stands low here
        (subst (λ (n : ℕ). HoldsDead (is_held n) (bits_in c.go_behind.new.row) (λ x. IsLiveAfter t (routine_of c.args.code.now) x (place c.loop-at.at (length c.index-blocks-at.result.body))))
        (sym long) (holds t stands flow count begins)))

    all : (t : Target) → Stands t (routine_of c.args.code.now) c.args.standing.now → HasLowFlags (routine_of c.args.code.now) → IsFlow t.word (routine_of c.args.code.now) c.args.flow.now
        → length c.args.begins.now ≡ length c.args.code.now.blocks → AreBegins t (routine_of c.args.code.now) c.args.words c.args.begins.now
        → AreTables (c.loop-at.at + 1) t (routine_of c.args.code.now) c.args.words c.push.new.self.items
    all t stands low flow count begins =
        subst (λ (xs : List (Vec Row)). AreTables (c.loop-at.at + 1) t (routine_of c.args.code.now) c.args.words xs) (sym c.in_ok-push.ensures.items)
        (tables_more t (routine_of c.args.code.now) c.args.words c.loop-at.table.items c.loop-at.at c.in_ok-block_rows.field-0 (block_of c.index-blocks-at.result) c.loop-at.invariant.0
        (c.loop-at.invariant.1 t stands low flow count begins) here (rows t stands low flow count begins))

pub returns : goal.returns
returns c = λ t stands low flow count begins.
    subst (λ (n : ℕ). AreTables n t (routine_of c.args.code.now) c.args.words c.loop-at.table.items) all (c.loop-at.invariant.1 t stands low flow count begins)
  where
    all : c.loop-at.at ≡ length c.args.code.now.blocks
    all = let e : length c.as_slice-blocks.result.now ≡ length c.args.code.now.blocks = ap length c.as_slice-blocks.ensures in
        let l = c.loop-at-test.false in let m = c.loop-at.auto.at-end in omega (arith, e, l, m)
