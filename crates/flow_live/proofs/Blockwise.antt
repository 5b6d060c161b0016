-- The rows of a block as far as they are made.
use Rattle.std.proofs.Common.{◌≡◌, ◌⊎◌, inl, inr, ℕ, zero, suc, ◌+◌, ◌<◌, ◌≤◌, List, [], ◌∷◌, ◌++◌, length, map, drop, Option, Some, refl, sym, ap, subst, ◌∙◌, arith}
use Rattle.std.specs.Prelude.{slice_get}
use Rattle.std.specs.Option.{option_map}
use Rattle.std.specs.Global.{Vec}
use Rattle.std.proofs.lemmas.Bool.{cases_order}
use Rattle.std.proofs.lemmas.Option.{none-some, same_Some, slice_get-map}
use Rattle.std.proofs.lemmas.List.{drop_all, length-map}
use Rattle.rtl_tree.specs.Moves.{Move}
use Rattle.rtl_tree.specs.Sets.{CellBits, has_cell}
use Rattle.temp_machine.specs.Routines.{Exit, BasicBlock, Routine, Target}
use Rattle.temp_machine.specs.Live.{Transfer, End, item_in, item_at, IsLive, IsLiveAfter}
use Rattle.temp_code.specs.declared.code.Transfer.{Transfer as Instruction}
use Rattle.temp_code.specs.declared.code.Block.{Block}
use Rattle.temp_code.specs.Routines.{block_of, exit_of}
use Rattle.flow_live.specs.declared.rows.Row.{Row}
use Rattle.flow_live.specs.declared.standing.Standing.{Standing}
use Rattle.flow_live.specs.Dead.{HoldsDead}
use Rattle.flow_live.specs.Rows.{Becomes, bits_in, is_held}
use Rattle.flow_live.specs.Walks.{HasLowFlags, Stands, item_dead, body_dead, block_dead}
use Rattle.flow_live.specs.Tables.{AreRowsFrom, AreBlockRows, AreTables, rows_by}
use Rattle.flow_live.proofs.Walking.{place, item_at_block}
use Rattle.flow_live.proofs.Closing.{end_of_body}
use Rattle.flow_live.proofs.Stepping.{low_block}
use Rattle.flow_live.proofs.Filling.{body_back, get_last, get_before, hold_before, hold_step, rows_first, rows_more, rows_done}

abbrev pub what_of : Instruction → List Move
what_of x = x.what

item_of_body : (ms : List (List Move)) (e : Exit) (i : ℕ) (m : List Move) → slice_get ms i ≡ Some m → item_in ms e i ≡ Some (Transfer m)
item_of_body [] e i m h = absurd (none-some m h)
item_of_body (n ∷ ms) e zero m h = ap (λ (x : List Move). Some (Transfer x)) (same_Some n m h)
item_of_body (n ∷ ms) e (suc i) m h = item_of_body ms e i m h

pub transfer_at : (b : Block) (i : ℕ) (x : Instruction) → slice_get b.body i ≡ Some x → slice_get (map what_of b.body) i ≡ Some x.what
transfer_at b i x h = slice_get-map what_of b.body i ∙ ap (option_map what_of) h

-- walking alone

pub walk_first : (t : Target) (r : Routine) (block : Block) (n : ℕ) (a b : CellBits) → length block.body ≤ n → Becomes (item_dead t r (End (exit_of block.end)) (has_cell a)) a b
    → Becomes (body_dead t r (drop n (map what_of block.body)) (exit_of block.end) (has_cell a)) a b
walk_first t r block n a b l g =
    subst (λ (ms : List (List Move)). Becomes (body_dead t r ms (exit_of block.end) (has_cell a)) a b)
    (sym (drop_all n (map what_of block.body) (let e = length-map block.body what_of in omega (arith, l, e)))) g

pub walk_more : (t : Target) (r : Routine) (block : Block) (n i : ℕ) (x : Instruction) (a b c : CellBits) → n ≡ suc i → slice_get block.body i ≡ Some x
    → Becomes (body_dead t r (drop n (map what_of block.body)) (exit_of block.end) (has_cell a)) a b → Becomes (item_dead t r (Transfer x.what) (has_cell b)) b c
    → Becomes (body_dead t r (drop i (map what_of block.body)) (exit_of block.end) (has_cell a)) a c
walk_more t r block n i x a b c e has g h =
    body_back t r (map what_of block.body) i x.what (exit_of block.end) (has_cell a) a b c (transfer_at block i x has)
    (subst (λ (m : ℕ). Becomes (body_dead t r (drop m (map what_of block.body)) (exit_of block.end) (has_cell a)) a b) e g) h

pub walk_done : (t : Target) (r : Routine) (block : Block) (n : ℕ) (a b : CellBits) → n ≤ 0
    → Becomes (body_dead t r (drop n (map what_of block.body)) (exit_of block.end) (has_cell a)) a b → Becomes (block_dead t r (block_of block) (has_cell a)) a b
walk_done t r block n a b l g =
    subst (λ (m : ℕ). Becomes (body_dead t r (drop m (map what_of block.body)) (exit_of block.end) (has_cell a)) a b) (let e : n ≡ 0 = omega (arith, l) in e) g

-- walking with the rows kept

pub record FillsTo (standing : Standing) (block : Block) (first : CellBits) (at : ℕ) (rows : List Row) (now : CellBits) : Type 0 where
  pub within : at ≤ length block.body
  pub words : length now.temps ≡ length first.temps
  pub fills : (t : Target) (r : Routine) (k : ℕ) → Stands t r standing → HasLowFlags r → slice_get r.blocks k ≡ Some (block_of block)
      → HoldsDead (is_held (length first.temps)) first (λ c. IsLiveAfter t r c (place k (length block.body)))
      → AreRowsFrom t r (length first.temps) k at (block_of block) rows × HoldsDead (is_held (length first.temps)) now (λ c. IsLive t r c (place k at))

pub mapped : (block : Block) → length (map what_of block.body) ≡ length block.body
mapped block = length-map block.body what_of

pub fills_first : (standing : Standing) (block : Block) (row : Row) (first now : CellBits) → bits_in row ≡ first
    → ((t : Target) (r : Routine) → Stands t r standing → Becomes (item_dead t r (End (exit_of block.end)) (has_cell first)) first now)
    → length now.temps ≡ length first.temps → FillsTo standing block first (length block.body) (row ∷ []) now
fills_first standing block row first now copied goes words = record { within = omega arith; words = words; fills = fills }
  where
    fills : (t : Target) (r : Routine) (k : ℕ) → Stands t r standing → HasLowFlags r → slice_get r.blocks k ≡ Some (block_of block)
        → HoldsDead (is_held (length first.temps)) first (λ c. IsLiveAfter t r c (place k (length block.body)))
        → AreRowsFrom t r (length first.temps) k (length block.body) (block_of block) (row ∷ [])
        × HoldsDead (is_held (length first.temps)) now (λ c. IsLive t r c (place k (length block.body)))
    fills t r k stands low has holds =
        let held : HoldsDead (is_held (length first.temps)) first (λ c. IsLiveAfter t r c (place k (length (map what_of block.body)))) =
        subst (λ (n : ℕ). HoldsDead (is_held (length first.temps)) first (λ c. IsLiveAfter t r c (place k n))) (sym (mapped block)) holds in (
          subst (λ (n : ℕ). AreRowsFrom t r (length first.temps) k n (block_of block) (row ∷ [])) (mapped block)
              (rows_first t r (length first.temps) k (block_of block) row
              (subst (λ (s : CellBits). HoldsDead (is_held (length first.temps)) s (λ c. IsLiveAfter t r c (place k (length (map what_of block.body))))) (sym copied) held)),
          subst (λ (n : ℕ). HoldsDead (is_held (length first.temps)) now (λ c. IsLive t r c (place k n))) (mapped block)
              (hold_before t r (length first.temps) (place k (length (map what_of block.body))) (End (exit_of block.end)) first now refl
              (item_at_block t r k (block_of block) has (length (map what_of block.body)) ∙ end_of_body (map what_of block.body) (exit_of block.end))
              (low_block r low k (block_of block) has (length (map what_of block.body)) (End (exit_of block.end)) (end_of_body (map what_of block.body) (exit_of block.end)))
              held (goes t r stands)),
        )

pub fills_more : (standing : Standing) (block : Block) (n i : ℕ) (x : Instruction) (rows : List Row) (row : Row) (first now next : CellBits) → n ≡ suc i
    → slice_get block.body i ≡ Some x → bits_in row ≡ now → FillsTo standing block first n rows now
    → ((t : Target) (r : Routine) → Stands t r standing → Becomes (item_dead t r (Transfer x.what) (has_cell now)) now next)
    → length next.temps ≡ length now.temps → FillsTo standing block first i (rows ++ row ∷ []) next
fills_more standing block n i x rows row first now next same has_x copied old goes words =
    record { within = (let l = old.within in omega (arith, l, same)); words = words ∙ old.words; fills = fills }
  where
    has_m : slice_get (map what_of block.body) i ≡ Some x.what
    has_m = transfer_at block i x has_x

    fills : (t : Target) (r : Routine) (k : ℕ) → Stands t r standing → HasLowFlags r → slice_get r.blocks k ≡ Some (block_of block)
        → HoldsDead (is_held (length first.temps)) first (λ c. IsLiveAfter t r c (place k (length block.body)))
        → AreRowsFrom t r (length first.temps) k i (block_of block) (rows ++ row ∷ [])
        × HoldsDead (is_held (length first.temps)) next (λ c. IsLive t r c (place k i))
    fills t r k stands low has holds =
        let so_far = old.fills t r k stands low has holds in
        let here : item_in (map what_of block.body) (exit_of block.end) i ≡ Some (Transfer x.what) = item_of_body (map what_of block.body) (exit_of block.end) i x.what has_m in
        let item : item_at r (place k i) ≡ Some (Transfer x.what) = item_at_block t r k (block_of block) has i ∙ here in
        let before : HoldsDead (is_held (length first.temps)) now (λ c. IsLive t r c (place k (suc i))) =
        subst (λ (m : ℕ). HoldsDead (is_held (length first.temps)) now (λ c. IsLive t r c (place k m))) same so_far.1 in
        let behind : HoldsDead (is_held (length first.temps)) now (λ c. IsLiveAfter t r c (place k i)) = hold_step t r (length first.temps) k i x.what now item before in (
          rows_more t r (length first.temps) k i (block_of block) rows row
              (subst (λ (m : ℕ). AreRowsFrom t r (length first.temps) k m (block_of block) rows) same so_far.0)
              (subst (λ (s : CellBits). HoldsDead (is_held (length first.temps)) s (λ c. IsLiveAfter t r c (place k i))) (sym copied) behind),
          hold_before t r (length first.temps) (place k i) (Transfer x.what) now next old.words item
              (low_block r low k (block_of block) has i (Transfer x.what) here) behind (goes t r stands),
        )

pub fills_done : (standing : Standing) (block : Block) (n : ℕ) (rows : List Row) (row : Row) (first now : CellBits) → n ≤ 0 → bits_in row ≡ now → FillsTo standing block first n rows now
    → (t : Target) (r : Routine) (k : ℕ) → Stands t r standing → HasLowFlags r → slice_get r.blocks k ≡ Some (block_of block)
    → HoldsDead (is_held (length first.temps)) first (λ c. IsLiveAfter t r c (place k (length block.body)))
    → AreBlockRows t r (length first.temps) k (block_of block) (rows ++ row ∷ [])
fills_done standing block n rows row first now l last old t r k stands low has holds =
    let zero_is : n ≡ 0 = omega (arith, l) in
    let so_far = old.fills t r k stands low has holds in
    rows_done t r (length first.temps) k (block_of block) rows row
    (subst (λ (m : ℕ). AreRowsFrom t r (length first.temps) k m (block_of block) rows) zero_is so_far.0)
    (subst (λ (s : CellBits). HoldsDead (is_held (length first.temps)) s (λ c. IsLive t r c (place k 0))) (sym last)
    (subst (λ (m : ℕ). HoldsDead (is_held (length first.temps)) now (λ c. IsLive t r c (place k m))) zero_is so_far.1))

-- the rows of one block more

pub tables_more : (t : Target) (r : Routine) (words : ℕ) (tables : List (Vec Row)) (n : ℕ) (v : Vec Row) (b : BasicBlock) → length tables ≡ n → AreTables n t r words tables
    → slice_get r.blocks n ≡ Some b → AreBlockRows t r words n b v.items → AreTables (n + 1) t r words (tables ++ v ∷ [])
tables_more t r words tables n v b long old here rows k x l has = by (cases_order k n)
  where
    by : (k ≡ n) ⊎ ((k < n) ⊎ (n < k)) → AreBlockRows t r words k x (rows_by (slice_get (tables ++ v ∷ []) k))
    by (inl f) =
        subst (λ (o : Option (Vec Row)). AreBlockRows t r words k x (rows_by o)) (sym (get_last t r tables v k (long ∙ sym f)))
        (subst (λ (y : BasicBlock). AreBlockRows t r words k y v.items) (same_Some b x (sym here ∙ ap (slice_get r.blocks) (sym f) ∙ has))
        (subst (λ (j : ℕ). AreBlockRows t r words j b v.items) (sym f) rows))
    by (inr (inl m)) =
        subst (λ (o : Option (Vec Row)). AreBlockRows t r words k x (rows_by o)) (sym (get_before t r tables v k (omega (arith, m, long)))) (old k x m has)
    by (inr (inr m)) = absurd (omega (arith, l, m))
