-- The job of linking a unit is sound.
use Rattle.std.proofs.Common.{◌≡◌, ◌≢◌, ◌⊎◌, inl, inr, ℕ, zero, suc, ◌+◌, ◌-◌, ◌*◌, ◌/◌, ◌<◌, ◌≤◌, ◌^◌, Bool, true, false, ◌||◌, List, [], ◌∷◌, ◌++◌, map, length, slice_get, Option, Some, All, refl, sym, subst, ap, arith, ◌∙◌}
use Rattle.std.specs.Prelude.{◌==◌, if◌then◌else◌, AllPairs}
use Rattle.std.specs.List.{list_any}
use Rattle.std.proofs.lemmas.Bool.{eqb-true, eq-eqb}
use Rattle.std.proofs.lemmas.List.{length-map}
use Rattle.std.proofs.lemmas.List.Elements.{All-nil}
use Rattle.rtl_word.proofs.Below.{by_size}
use Rattle.rtl_tree.specs.declared.cells.Cell.TheVariants.{Pc}
use Rattle.rtl_tree.specs.Moves.{Move}
use Rattle.rtl_effect.specs.Effects.{assigned}
use Rattle.rtl_norm_value.specs.Effect.{with_normal_jump}
use Rattle.md_rows.specs.declared.description.RawDescription.{RawDescription}
use Rattle.md_rows.specs.Fits.{is_in}
use Rattle.md_rows.specs.Instances.{general_set}
use Rattle.md_shapes.specs.declared.patterns.Pattern.TheVariants.{Call as CallShape}
use Rattle.md_shapes.specs.Shapes.{Frame, call_moves}
use Rattle.md_covers.specs.Covers.{frame_in}
use Rattle.md_match.proofs.Apart.{all_at}
use Rattle.md_said.specs.Sound.{SaidIsSound}
use Rattle.md_said.specs.Limits.{SaidIsLimited}
use Rattle.md_bounds.specs.Bounds.{SaidIsBounded}
use Rattle.md_check.specs.Checking.{IsChecked}
use Rattle.md_filled.proofs.Doing.{none_some, some_same, unmapped}
use Rattle.temp_machine.specs.Routines.{Exit, Jumps, Branches, Calls, BasicBlock, Routine, Target, block_transfers, exit_transfers}
use Rattle.temp_machine.specs.Cells.{mentions, is_temporary, has_temporaries}
use Rattle.temp_machine.specs.Live.{Transfer as Made, End as Ending, Place, item_in, item_of, item_at}
use Rattle.temp_machine.specs.Flow.{label_by}
use Rattle.temp_machine.specs.Units.{IsSound, IsImage}
use Rattle.temp_code.specs.declared.code.Transfer.{Transfer}
use Rattle.temp_code.specs.declared.code.End.{End}
use Rattle.temp_code.specs.declared.code.End.TheVariants.{Fall, Jump, Branch, Call, Return}
use Rattle.temp_code.specs.declared.code.Block.{Block}
use Rattle.temp_code.specs.declared.code.Code.{Code}
use Rattle.temp_code.specs.declared.code.Unit.{Unit as Program}
use Rattle.temp_code.specs.Routines.{exit_of, block_of, routine_of, routine_in, image_of}
use Rattle.temp_code.specs.Realised.{IsRealised, end_transfers, transfers_of}
use Rattle.temp_shapes.proofs.Roles.{checked_size}
use Rattle.temp_laws.specs.Targets.{target_of}
use Rattle.temp_laws.proofs.Going.{calls_go}
use Rattle.temp_laws.proofs.Targets.{BitsAreSum, targets_sound}
use Rattle.link_code.specs.Linked.{Glue, Job, program, calling}
use Rattle.link_code.specs.Runs.{Stands, DoesAs, BodyPlain, EndPlain, CallPlain, JumpPlain, IsPlain, NoJumps}
use Rattle.link_code.specs.Sound.{IsSoundJob}
use Rattle.row_laws.specs.Formed.{IsGoodTransfer}
use Rattle.row_laws.proofs.Formed.{realised_formed}
use Rattle.row_links.specs.Glue.{IsRowGlue}
use Rattle.row_links.specs.Jobs.{IsCallOf, IsLinkedCode, IsUnitJob, functions_of, JobsAreSound}
use Rattle.row_links.proofs.Glue.{shapes, frame_is, calls_same, row_glue}
use Rattle.row_links.proofs.Plain.{is_plain, jump_plain, no_jumps, label_stands, label_owns}

-- lists

pub none_at : {A : Type 0} (f : A → Bool) (xs : List A) (i : ℕ) (x : A) → list_any f xs ≡ false → slice_get xs i ≡ Some x → f x ≡ false
none_at f [] i x e is = absurd (none_some x is)
none_at {A} f (y ∷ ys) i x e is = by (λ j g k. none_at f ys j x g k) (f y) refl e i is
  where
    by : ((j : ℕ) → list_any f ys ≡ false → slice_get ys j ≡ Some x → f x ≡ false) → (q : Bool) → f y ≡ q → (q || list_any f ys) ≡ false → (j : ℕ) → slice_get (y ∷ ys) j ≡ Some x → f x ≡ false
    by next true s g j k = let n : true ≡ false = g in absurd (cc)
    by next false s g zero k = subst (λ (z : A). f z ≡ false) (some_same y x k) s
    by next false s g (suc j) k = next j g k

pub in_front : {A : Type 0} (xs ys : List A) (i : ℕ) (x : A) → slice_get xs i ≡ Some x → slice_get (xs ++ ys) i ≡ Some x
in_front [] ys i x e = absurd (none_some x e)
in_front (z ∷ xs) ys zero x e = e
in_front (z ∷ xs) ys (suc i) x e = in_front xs ys i x e

pub at_end : {A : Type 0} (xs : List A) (x : A) → slice_get (xs ++ (x ∷ [])) (length xs) ≡ Some x
at_end [] x = refl
at_end (y ∷ xs) x = at_end xs x

-- places in a block

body_item : (body : List (List Move)) (e : Exit) (k : ℕ) (ms : List Move) → slice_get body k ≡ Some ms → item_in body e k ≡ Some (Made ms)
body_item [] e k ms is = absurd (none_some ms is)
body_item (x ∷ body) e zero ms is = ap (λ (y : List Move). Some (Made y)) (some_same x ms is)
body_item (x ∷ body) e (suc k) ms is = body_item body e k ms is

end_item : (body : List (List Move)) (e : Exit) → item_in body e (length body) ≡ Some (Ending e)
end_item [] e = refl
end_item (x ∷ body) e = end_item body e

pub item_here : (r : Routine) (i k : ℕ) (b : BasicBlock) → slice_get r.blocks i ≡ Some b → item_at r (record { block = i; at = k }) ≡ item_in b.body b.exit k
item_here r i k b e = ap (λ (o : Option BasicBlock). item_of o k) e

body_from : (t : Target) (body : List (List Move)) → ((k : ℕ) (ms : List Move) → slice_get body k ≡ Some ms → IsPlain t ms × NoJumps ms) → BodyPlain t body
body_from t [] h = tt
body_from t (ms ∷ body) h = let x = h zero ms refl in (x.0, x.1, body_from t body (λ k n e. h (suc k) n e))

-- the words for arguments lie below the homes

abbrev HasRoom : ℕ → Type 0
HasRoom w = (params first kept : ℕ) → w / 8 * (3 + kept) ≤ first → params ≤ (first - w / 8 * (1 + kept)) / (w / 8) → w / 8 * params + w / 8 ≤ first

room_short : HasRoom 16
room_short params first kept a b = omega (arith, a, b)

room_long : HasRoom 32
room_long params first kept a b = omega (arith, a, b)

none_apart : AllPairs {X = ℕ} (λ j k. j ≢ k) []
none_apart i j d l k = absurd (omega (arith, k))

-- a code, its routine, and what the routine owes

module _ (sound : SaidIsSound) (bounded : SaidIsBounded) (w : ℕ) (d : RawDescription) (frame : Frame) (c : IsChecked w d) (is : frame_in d ≡ Some frame) where
  abbrev target : Target
  target = target_of d frame []

  abbrev at_place : ℕ → ℕ → Place
  at_place i k = record { block = i; at = k }

  module _ (order : List ℕ) (x : Code) (given : IsLinkedCode d frame order x) (r : Routine) (e : r ≡ routine_of x) where
    -- a block of the routine is that of one of the code
    pub record From (i : ℕ) (b : BasicBlock) : Type 0 where
      pub block : Block
      pub has : slice_get x.blocks i ≡ Some block
      pub same : block_of block ≡ b

    pub from_code : (i : ℕ) (b : BasicBlock) → slice_get r.blocks i ≡ Some b → From i b
    from_code i b h =
        let f = unmapped block_of x.blocks i b (ap (λ (z : Routine). slice_get z.blocks i) (sym e) ∙ h) in record { block = f.from; has = f.is; same = f.to }

    realised_at : (i k : ℕ) (b : Block) (t : Transfer) → slice_get x.blocks i ≡ Some b → slice_get (transfers_of b) k ≡ Some t → IsRealised d t
    realised_at i k b t h g = all_at (IsRealised d) (transfers_of b) (all_at (λ b. All (IsRealised d) (transfers_of b)) x.blocks given.realised i b h) k t g

    free_at : (i k : ℕ) (b : BasicBlock) (ms : List Move) → slice_get r.blocks i ≡ Some b → slice_get (block_transfers b) k ≡ Some ms → mentions is_temporary ms ≡ false
    free_at i k b ms h g =
        none_at (mentions is_temporary) (block_transfers b) k ms
        (none_at (λ b. list_any (mentions is_temporary) (block_transfers b)) r.blocks i b (ap has_temporaries e ∙ given.plain) h) g

    -- what holds of a transfer of the body
    body_at : (i k : ℕ) (b : BasicBlock) (ms : List Move) → slice_get r.blocks i ≡ Some b → slice_get b.body k ≡ Some ms → IsGoodTransfer d.word ms
    body_at i k b ms h g =
        let f = from_code i b h in
        let t = unmapped (λ t. t.what) f.block.body k ms (ap (λ (z : BasicBlock). slice_get z.body k) f.same ∙ g) in
        subst (IsGoodTransfer d.word) t.to
        (realised_formed sound bounded w d t.from c (realised_at i k f.block t.from f.has (in_front f.block.body (end_transfers f.block.end) k t.from t.is)))

    -- and of one that ends a block
    pub record Ends (i : ℕ) (ms : List Move) : Type 0 where
      pub good : IsGoodTransfer d.word ms
      pub free : mentions is_temporary ms ≡ false

    end_at : (i : ℕ) (b : BasicBlock) (f : From i b) → slice_get r.blocks i ≡ Some b → (t : Transfer) → end_transfers f.block.end ≡ t ∷ [] → exit_transfers b.exit ≡ t.what ∷ []
        → Ends i t.what
    end_at i b f h t g q = record {
      good = realised_formed sound bounded w d t c
          (realised_at i (length f.block.body) f.block t f.has (ap (λ (ts : List Transfer). slice_get (f.block.body ++ ts) (length f.block.body)) g ∙ at_end f.block.body t));
      free = free_at i (length b.body) b t.what h (ap (λ (ts : List (List Move)). slice_get (b.body ++ ts) (length b.body)) q ∙ at_end b.body t.what);
    }

    module _ (owes : IsSound target r) where
      pub body_plain : (i : ℕ) (b : BasicBlock) → slice_get r.blocks i ≡ Some b → BodyPlain target b.body
      body_plain i b h = body_from target b.body (λ k ms g.
          (let good = body_at i k b ms h g in
          let item = item_here r i k b h ∙ body_item b.body b.exit k ms g in (
            is_plain target ms (free_at i k b ms h (in_front b.body (exit_transfers b.exit) k ms g)) (owes.straight.stack_in_bodies (at_place i k) ms item) good.fits,
            no_jumps ms (owes.straight.counter (at_place i k) ms item),
          )))

      -- a jump goes to labels of the routine
      jump_end : (i : ℕ) (b : BasicBlock) (ms : List Move) → slice_get r.blocks i ≡ Some b → b.exit ≡ Jumps ms → Ends i ms → JumpPlain target r.blocks ms
      jump_end i b ms h q x =
          let at = at_place i (length b.body) in
          let item = item_here r i (length b.body) b h ∙ (end_item b.body b.exit ∙ ap (λ (z : Exit). Some (Ending z)) q) in
          let goes = owes.whole.jumps at ms item in
          jump_plain target r.blocks ms (checked_size w d sound c) x.good x.free (owes.straight.stack_in_jumps at ms item)
          (label_owns r.blocks (assigned (with_normal_jump d.word ms) Pc) goes.0 (ap label_by goes.1) (label_stands r.blocks goes.0 goes.2))

      branch_end : (i : ℕ) (b : BasicBlock) (ms : List Move) → slice_get r.blocks i ≡ Some b → b.exit ≡ Branches ms → Ends i ms → JumpPlain target r.blocks ms
      branch_end i b ms h q x =
          let at = at_place i (length b.body) in
          let item = item_here r i (length b.body) b h ∙ (end_item b.body b.exit ∙ ap (λ (z : Exit). Some (Ending z)) q) in
          let goes = owes.whole.branches at ms item in
          jump_plain target r.blocks ms (checked_size w d sound c) x.good x.free (owes.straight.stack_in_branches at ms item)
          (label_owns r.blocks (assigned (with_normal_jump d.word ms) Pc) goes.0 goes.1 (label_stands r.blocks goes.0 goes.2))

  -- a call is the machine's
  call_does : (order : List ℕ) (t : Transfer) (x : IsCallOf d frame order t) → DoesAs d.word t.what (calling target frame.link x.callee)
  call_does order t x =
      subst (DoesAs d.word t.what) (ap (call_moves frame frame.link) x.label ∙ calls_same sound bounded w d frame c [] (frame_is d frame is) frame.link x.callee)
      (shapes sound bounded w d frame CallShape x.at t c x.operands x.of_shape)

  -- the job
  module _ (u : Program) (g : Glue) (glued : IsRowGlue d frame g) (image : IsImage target (image_of u)) (codes : All (IsLinkedCode d frame (functions_of u)) u.codes) where
    abbrev pub job : Job
    job = record { t = target; p = image_of u; glue = g; order = functions_of u }

    -- a function that stands has a code, and its routine is that code's
    pub record Has (f : ℕ) : Type 0 where
      pub code : Code
      pub given : IsLinkedCode d frame (functions_of u) code
      pub routine : routine_in u.codes f ≡ routine_of code

    has_code : (cs : List Code) (f : ℕ) → Stands f (map (λ c. c.function) cs) → (i : ℕ) × (x : Code) × (slice_get cs i ≡ Some x) × (routine_in cs f ≡ routine_of x)
    has_code [] f s = absurd s
    has_code (x ∷ cs) f s = by (λ k. has_code cs f k) (x.function == f) refl s
      where
        by : (Stands f (map (λ c. c.function) cs) → (i : ℕ) × (y : Code) × (slice_get cs i ≡ Some y) × (routine_in cs f ≡ routine_of y)) → (q : Bool) → x.function == f ≡ q → (x.function ≡ f) ⊎ Stands f (map (λ c. c.function) cs)
            → (i : ℕ) × (y : Code) × (slice_get (x ∷ cs) i ≡ Some y) × ((if q then routine_of x else routine_in cs f) ≡ routine_of y)
        by next true e s = (0, x, refl, refl)
        by next false e (inl s) = absurd (let k : true ≡ false = sym (eq-eqb x.function f s) ∙ e in cc)
        by next false e (inr s) = let k = next s in (suc k.0, k.1, k.2, k.3)

    pub has : (f : ℕ) → Stands f (functions_of u) → Has f
    has f s =
        let k = has_code u.codes f s in
        record { code = k.1; given = all_at (IsLinkedCode d frame (functions_of u)) u.codes codes k.0 k.1 k.2; routine = k.3 }

    stands_by : (cs : List Code) (f : ℕ) → 0 < length (routine_in cs f).blocks → Stands f (map (λ c. c.function) cs)
    stands_by [] f h = absurd (omega (arith, h))
    stands_by (x ∷ cs) f h = by (λ k. stands_by cs f k) (x.function == f) refl h
      where
        by : (0 < length (routine_in cs f).blocks → Stands f (map (λ c. c.function) cs)) → (q : Bool) → x.function == f ≡ q → 0 < length (if q then routine_of x else routine_in cs f).blocks → (x.function ≡ f) ⊎ Stands f (map (λ c. c.function) cs)
        by next true e k = inl (eqb-true x.function f e)
        by next false e k = inr (next k)

    has_blocks : (f : ℕ) → Stands f (functions_of u) → 0 < length (routine_in u.codes f).blocks
    has_blocks f s =
        let x = has f s in
        let long = length-map x.code.blocks block_of in
        subst (λ (r : Routine). 0 < length r.blocks) (sym x.routine) (let many = x.given.has_block in omega (arith, long, many))

    owed : (f : ℕ) → Stands f (functions_of u) → IsSound target (routine_in u.codes f)
    owed f s = image.routines f (has_blocks f s)

    bodies : (f : ℕ) → Stands f (functions_of u) → (i : ℕ) (b : BasicBlock) → slice_get (routine_in u.codes f).blocks i ≡ Some b → BodyPlain target b.body
    bodies f s i b h = let x = has f s in body_plain (functions_of u) x.code x.given (routine_in u.codes f) x.routine (owed f s) i b h

    call_end : (f : ℕ) → Stands f (functions_of u) → (i : ℕ) (b : BasicBlock) (t : Transfer) → slice_get (routine_in u.codes f).blocks i ≡ Some b → b.exit ≡ Calls t.what
        → IsCallOf d frame (functions_of u) t → CallPlain job f t.what
    call_end f s i b t h q x =
        let r = routine_in u.codes f in
        let calls = calls_go sound bounded w d frame x.at t x.callee c x.of_shape x.label in
        let item = item_here r i (length b.body) b h ∙ (end_item b.body b.exit ∙ ap (λ (z : Exit). Some (Ending z)) q) in
        record {
          callee = x.callee;
          calls = calls;
          there = x.there;
          arguments = by_size HasRoom room_short room_long d.word (checked_size w d sound c) (routine_in u.codes x.callee).params r.first_home 0 (owed f s).framed.below_homes
              (image.arguments f x.callee (at_place i (length b.body)) t.what item calls);
          does = call_does (functions_of u) t x;
        }

    ends : (f : ℕ) → Stands f (functions_of u) → (i : ℕ) (b : BasicBlock) → slice_get (routine_in u.codes f).blocks i ≡ Some b → EndPlain job f b.exit
    ends f s i b h =
        let x = has f s in
        let r = routine_in u.codes f in
        let from = from_code (functions_of u) x.code x.given r x.routine i b h in
        by x from from.block.end refl
      where
        by : (x : Has f) (from : From (functions_of u) x.code x.given (routine_in u.codes f) x.routine i b) (end : End) → from.block.end ≡ end → EndPlain job f b.exit
        by x from Fall q = subst (EndPlain job f) (sym (ap exit_of q) ∙ ap (λ (z : BasicBlock). z.exit) from.same) tt
        by x from Return q = subst (EndPlain job f) (sym (ap exit_of q) ∙ ap (λ (z : BasicBlock). z.exit) from.same) tt
        by x from (Jump t) q =
            let is : b.exit ≡ Jumps t.what = sym (ap (λ (z : BasicBlock). z.exit) from.same) ∙ ap exit_of q in
            let made = end_at (functions_of u) x.code x.given (routine_in u.codes f) x.routine i b from h t (ap end_transfers q) (ap exit_transfers is) in
            subst (EndPlain job f) (sym is) (jump_end (functions_of u) x.code x.given (routine_in u.codes f) x.routine (owed f s) i b t.what h is made)
        by x from (Branch t) q =
            let is : b.exit ≡ Branches t.what = sym (ap (λ (z : BasicBlock). z.exit) from.same) ∙ ap exit_of q in
            let made = end_at (functions_of u) x.code x.given (routine_in u.codes f) x.routine i b from h t (ap end_transfers q) (ap exit_transfers is) in
            subst (EndPlain job f) (sym is) (branch_end (functions_of u) x.code x.given (routine_in u.codes f) x.routine (owed f s) i b t.what h is made)
        by x from (Call t) q =
            let is : b.exit ≡ Calls t.what = sym (ap (λ (z : BasicBlock). z.exit) from.same) ∙ ap exit_of q in
            subst (EndPlain job f) (sym is) (call_end f s i b t h is (x.given.calls i from.block t from.has q))

    pub job_sound : SaidIsLimited → BitsAreSum → length (program job) < 2 ^ d.word → IsSoundJob job
    job_sound limited sums short = record {
      target = targets_sound sound limited bounded sums w d frame [] c is (All-nil (λ k. is_in (general_set d.registers) k ≡ true)) none_apart;
      image = image;
      none_kept = refl;
      glued = row_glue sound bounded w d frame g [] c is glued;
      main_stands = stands_by u.codes (image_of u).main image.main;
      there = has_blocks;
      bodies = bodies;
      ends = ends;
      short = short;
    }

-- a job that is such is that one
pub same_job : (d : RawDescription) (frame : Frame) (u : Program) (j : Job) → IsUnitJob d frame u j
    → (let k : Job = record { t = target_of d frame []; p = image_of u; glue = j.glue; order = functions_of u } in j ≡ k)
same_job d frame u j h = λ i. record { t = h.target i; p = h.image i; glue = j.glue; order = h.order i }

pub jobs_sound : SaidIsSound → SaidIsLimited → SaidIsBounded → BitsAreSum → JobsAreSound
jobs_sound sound limited bounded sums w d frame u j c is h =
    let same = same_job d frame u j h in
    subst IsSoundJob (sym same)
    (job_sound sound bounded w d frame c is u j.glue h.glue h.sound h.codes limited sums (subst (λ (x : Job). length (program x) < 2 ^ d.word) same h.short))
