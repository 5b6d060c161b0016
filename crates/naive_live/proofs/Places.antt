-- What is live in the code of places, assignments and steps.
use Rattle.std.proofs.Common.{◌≡◌, inl, inr, ℕ, suc, ◌+◌, ◌<◌, ◌≤◌, List, [], ◌∷◌, ◌++◌, Option, Some, refl, sym, subst, arith}
use Rattle.std.specs.Prelude.{length, slice_get}
use Rattle.rtl_tree.specs.declared.expressions.BinOp.{BinOp}
use Rattle.rtl_tree.specs.declared.expressions.BinOp.TheVariants as op
use Rattle.rtl_tree.specs.declared.cells.Cell.TheVariants.{Temp}
use Rattle.c_tree.specs.declared.types.CType.{CType}
use Rattle.c_tree.specs.declared.types.CType.TheVariants as type
use Rattle.c_tree.specs.declared.syntax.Arithmetic.{Arithmetic}
use Rattle.c_tree.specs.declared.syntax.Arithmetic.TheVariants as arithmetic
use Rattle.c_tree.specs.declared.syntax.StepOperator.{StepOperator}
use Rattle.c_tree.specs.declared.typed.Operation.{Operation}
use Rattle.c_tree.specs.declared.typed.Operation.TheVariants as operation
use Rattle.naive_code.specs.Operations.{Calls, Op, Meet, Scale, Extend, Close, copy, constant, address, load, store, load_byte, store_byte, operate, add, read_stack, store_home, store_top, read_result}
use Rattle.naive_code.specs.Storage.{Base, Symbol, Frame, Storage, Temporary, Word, Elements}
use Rattle.naive_code.specs.Expressions.{Value, Designated, object, element, base_ops, scaled, addressed, fetched, put_at, narrowed, address_in, opened, got_from, put_into, storage_in, settled, settled_in, beside, read_element, read_object, by_type, computed, assigned, operation_labels, combined, compound, step_operator, stepped_before, stepped_after}
use Rattle.naive_live.specs.Live.{Has, Within, AreApart, Lives, Comes}
use Rattle.naive_live.proofs.Lists.{within_same, within_rest, within_first, Below, below_more, stacked, apart_below, fresh, apart_within, at_get}
use Rattle.naive_live.proofs.Passing.{lives_then, first, only, comes_new, comes_again, comes_scalar}
use Rattle.naive_live.proofs.Values.{sum_of, Deep, Marked, IsStacked, marked_first, marked_second, deep_first, deep_second, deep_as, depth_as, leaf_stacked, then_on_stacked}

module _ (depth : ℕ → Option ℕ) (scalars : ℕ) where
  abbrev D : ℕ → List ℕ → Type 0
  D = Deep depth scalars

  -- the depth of one of a row
  nth : (k : ℕ) (xs : List ℕ) (t d : ℕ) → slice_get xs k ≡ Some d → D t xs → depth (t + k) ≡ Some d
  nth k xs t d e h = at_get ℕ (λ i d. depth i ≡ Some d) k xs t d e h

  -- what is done to a value that is on top
  abbrev pub On_top : (ℕ → List ℕ) → List ℕ → ℕ → List Op → Type 0
  On_top env xs v os = Lives depth scalars env (v ∷ xs) os (v ∷ xs)

  module _ (env : ℕ → List ℕ) (xs : List ℕ) where
    abbrev L : List ℕ → List Op → List ℕ → Type 0
    L = Lives depth scalars env

    -- ---- addresses

    base_lives : (base : Base) (d t : ℕ) → Below depth d xs → depth t ≡ Some d → depth (t + 1) ≡ Some (d + 1) → L xs (base_ops base t) (t ∷ xs)
    base_lives (Symbol y) d t b e g = only depth scalars env (address t y) xs (t ∷ xs) (refl, comes_new depth scalars env t xs (fresh depth d t xs e b))
    base_lives (Frame offset) d t b e g =
        let ys = t ∷ xs in let u = t + 1 in
        first depth scalars env (read_stack t) (constant u offset ∷ add t u ∷ []) xs ys ys (refl, comes_new depth scalars env t xs (fresh depth d t xs e b))
        (first depth scalars env (constant u offset) (add t u ∷ []) ys (u ∷ ys) ys (refl, comes_new depth scalars env u ys (fresh depth (d + 1) u ys g (stacked depth d t xs e b)))
        (only depth scalars env (add t u) (u ∷ ys) ys (inr (inr (inl refl)), inr (inl refl), within_rest u ys)))

    scaled_lives : (of : CType) (i t : ℕ) → AreApart depth (t ∷ i ∷ xs) → On_top env xs i (scaled of i t)
    scaled_lives type.Schar i t h = within_same (i ∷ xs)
    scaled_lives type.Uchar i t h = within_same (i ∷ xs)
    scaled_lives type.Void i t h = only depth scalars env (Scale i t) (i ∷ xs) (i ∷ xs) (inr (inl refl), h, within_same (i ∷ xs))
    scaled_lives type.Int i t h = only depth scalars env (Scale i t) (i ∷ xs) (i ∷ xs) (inr (inl refl), h, within_same (i ∷ xs))
    scaled_lives type.Unsigned i t h = only depth scalars env (Scale i t) (i ∷ xs) (i ∷ xs) (inr (inl refl), h, within_same (i ∷ xs))

    -- a byte is loaded, or a word; the address may be where the value comes
    fetched_lives : (of : CType) (v a t : ℕ) (us : List ℕ) → Has xs a → Comes depth scalars env xs (Temp v) us → Has us v → AreApart depth (t ∷ us) → L xs (fetched of v a t) us
    fetched_lives type.Schar v a t us k c m h = only depth scalars env (load_byte v a) xs us (inr k, c)
    fetched_lives type.Uchar v a t us k c m h =
        first depth scalars env (load_byte v a) (constant t 255 ∷ Meet v t ∷ []) xs us us (inr k, c)
        (first depth scalars env (constant t 255) (Meet v t ∷ []) us (t ∷ us) us (refl, comes_new depth scalars env t us h)
        (only depth scalars env (Meet v t) (t ∷ us) us (inr (inr m), inr (inl refl), within_rest t us)))
    fetched_lives type.Void v a t us k c m h = only depth scalars env (load v a) xs us (inr k, c)
    fetched_lives type.Int v a t us k c m h = only depth scalars env (load v a) xs us (inr k, c)
    fetched_lives type.Unsigned v a t us k c m h = only depth scalars env (load v a) xs us (inr k, c)

    pub put_at_lives : (of : CType) (a v : ℕ) → Has xs a → Has xs v → L xs (put_at of a v) xs
    put_at_lives type.Schar a v h k = only depth scalars env (store_byte a v) xs xs (inr h, inr k, within_same xs)
    put_at_lives type.Uchar a v h k = only depth scalars env (store_byte a v) xs xs (inr h, inr k, within_same xs)
    put_at_lives type.Void a v h k = only depth scalars env (store a v) xs xs (inr h, inr k, within_same xs)
    put_at_lives type.Int a v h k = only depth scalars env (store a v) xs xs (inr h, inr k, within_same xs)
    put_at_lives type.Unsigned a v h k = only depth scalars env (store a v) xs xs (inr h, inr k, within_same xs)

    pub narrowed_lives : (of : CType) (v t : ℕ) → Has xs v → AreApart depth (t ∷ xs) → L xs (narrowed of v t) xs
    narrowed_lives type.Schar v t k h = only depth scalars env (Extend v t) xs xs (inr k, h, within_same xs)
    narrowed_lives type.Uchar v t k h =
        first depth scalars env (constant t 255) (Meet v t ∷ []) xs (t ∷ xs) xs (refl, comes_new depth scalars env t xs h)
        (only depth scalars env (Meet v t) (t ∷ xs) xs (inr (inr k), inr (inl refl), within_rest t xs))
    narrowed_lives type.Void v t k h = within_same xs
    narrowed_lives type.Int v t k h = within_same xs
    narrowed_lives type.Unsigned v t k h = within_same xs

    -- the result stands in the left operand's temporary
    operate_lives : (o : BinOp) (a b : ℕ) → L (b ∷ a ∷ xs) (operate o a b ∷ []) (a ∷ xs)
    operate_lives o a b = only depth scalars env (operate o a b) (b ∷ a ∷ xs) (a ∷ xs) (inr (inr (inl refl)), inr (inl refl), within_rest b (a ∷ xs))

    pub computed_lives : (o : Arithmetic) (of : CType) (a b : ℕ) → L (b ∷ a ∷ xs) (computed o of a b) (a ∷ xs)
    computed_lives arithmetic.Add of a b = operate_lives op.Add a b
    computed_lives arithmetic.Subtract of a b = operate_lives op.Sub a b
    computed_lives arithmetic.Multiply of a b = operate_lives op.Mul a b
    computed_lives arithmetic.Divide of a b = operate_lives (by_type of op.Div op.Divu) a b
    computed_lives arithmetic.Remainder of a b = operate_lives (by_type of op.Rem op.Remu) a b
    computed_lives arithmetic.And of a b = only depth scalars env (Meet a b) (b ∷ a ∷ xs) (a ∷ xs) (inr (inr (inl refl)), inr (inl refl), within_rest b (a ∷ xs))
    computed_lives arithmetic.Xor of a b = operate_lives op.Xor a b
    computed_lives arithmetic.Or of a b = operate_lives op.Or a b
    computed_lives arithmetic.ShiftLeft of a b = operate_lives op.Shl a b
    computed_lives arithmetic.ShiftRight of a b = operate_lives (by_type of op.Shr op.Shru) a b

  -- ---- elements

  addressed_lives : (env : ℕ → List ℕ) (base : Base) (of : CType) (xs : List ℕ) (d i t : ℕ) → Below depth d xs → depth i ≡ Some d
      → D t ((d + 1) ∷ (d + 2) ∷ (d + 2) ∷ []) → On_top env xs i (addressed base of i t)
  addressed_lives env base of xs d i t b e h =
      let ys = i ∷ xs in
      let up = stacked depth d i xs e b in
      let two : d + 1 + 1 ≡ d + 2 = omega arith in
      let second = depth_as depth scalars (t + 1) (d + 2) (d + 1 + 1) (sym two) (nth 1 ((d + 1) ∷ (d + 2) ∷ (d + 2) ∷ []) t (d + 2) refl h) in
      let low : d + 1 ≤ d + 2 = omega arith in
      let third = fresh depth (d + 2) (t + 2) ys (nth 2 ((d + 1) ∷ (d + 2) ∷ (d + 2) ∷ []) t (d + 2) refl h) (below_more depth (d + 1) (d + 2) ys low up) in
      lives_then depth scalars env (scaled of i (t + 2)) (base_ops base t ++ (add i t ∷ [])) ys ys ys (scaled_lives env xs of i (t + 2) third)
      (lives_then depth scalars env (base_ops base t) (add i t ∷ []) ys (t ∷ ys) ys (base_lives env ys base (d + 1) t up h.0 second) (operate_lives env xs op.Add i t))

  pub address_stacked : (base : Base) (of : CType) (i : Value) → IsStacked depth scalars i → IsStacked depth scalars (address_in (Elements base of) i)
  address_stacked base of i p =
      then_on_stacked depth scalars i 3 (λ d. (d + 1) ∷ (d + 2) ∷ (d + 2) ∷ []) (λ v t. addressed base of v t) p (λ d. refl)
      (λ env xs d v t b e h. addressed_lives env base of xs d v t b e h)

  pub element_stacked : (base : Base) (of : CType) (i : Value) → IsStacked depth scalars i → IsStacked depth scalars (read_element (Elements base of) i)
  element_stacked base of i p =
      then_on_stacked depth scalars (address_in (Elements base of) i) 1 (λ d. (d + 1) ∷ []) (λ v t. fetched of v v t) (address_stacked base of i p) (λ d. refl)
      (λ env xs d v t b e h.
      (let up = stacked depth d v xs e b in
      fetched_lives env (v ∷ xs) of v v t (v ∷ xs) (inl refl) (comes_again depth scalars env v (v ∷ xs) (inl refl) (apart_below depth (d + 1) (v ∷ xs) up)) (inl refl)
      (fresh depth (d + 1) t (v ∷ xs) h.0 up)))

  -- ---- places

  -- what is live where a place is opened, and that its value may be got, and another put there
  pub record PlaceLives (p : Designated) (xs : List ℕ) (d t l : ℕ) : Type 0 where
    pub behind : List ℕ
    pub marks : List (List ℕ)
    pub many : length marks ≡ (opened p).labels
    pub lives : (env : ℕ → List ℕ) → Marked depth scalars env l marks → Lives depth scalars env xs ((opened p).ops t l) behind
    pub below : Below depth (d + beside p) behind
    pub got : (env : ℕ → List ℕ) (v spare : ℕ) → AreApart depth (spare ∷ v ∷ behind)
        → Lives depth scalars env behind (got_from (storage_in p) v ((opened p).result t) spare) (v ∷ behind)
    pub put : (env : ℕ → List ℕ) (us : List ℕ) (v spare : ℕ) → Within behind us → Has us v → AreApart depth (spare ∷ us)
        → Lives depth scalars env us (put_into (storage_in p) ((opened p).result t) v spare) us
    pub settle : (env : ℕ → List ℕ) (us : List ℕ) (v : ℕ) → Within behind us → Has us v → AreApart depth us
        → Lives depth scalars env us (settled p ((opened p).result t) v) (settled_in p ((opened p).result t) v ∷ xs)
    pub deep : (v : ℕ) → depth v ≡ Some (d + beside p) → depth (settled_in p ((opened p).result t) v) ≡ Some d

  pub record IsPlace (p : Designated) : Type 0 where
    pub many : (d : ℕ) → length ((opened p).depths d) ≡ (opened p).temps
    pub each : (xs : List ℕ) (d t l : ℕ) → Below depth d xs → D t ((opened p).depths d) → PlaceLives p xs d t l

  -- a scalar's place needs no code
  pub data IsScalarIn : Storage → Type 0 where
    in_temporary : (k : ℕ) → k < scalars → IsScalarIn (Temporary k)
    in_word : (y : ℕ) → IsScalarIn (Word y)

  pub scalar_got : (env : ℕ → List ℕ) (s : Storage) → IsScalarIn s → (xs : List ℕ) (v a spare : ℕ) → AreApart depth (v ∷ xs)
      → Lives depth scalars env xs (got_from s v a spare) (v ∷ xs)
  scalar_got env _ (in_temporary k lt) xs v a spare h = only depth scalars env (copy v k) xs (v ∷ xs) (inl lt, comes_new depth scalars env v xs h)
  scalar_got env _ (in_word y) xs v a spare h =
      first depth scalars env (address v y) (load v v ∷ []) xs (v ∷ xs) (v ∷ xs) (refl, comes_new depth scalars env v xs h)
      (only depth scalars env (load v v) (v ∷ xs) (v ∷ xs) (inr (inl refl), comes_again depth scalars env v (v ∷ xs) (inl refl) h))

  pub scalar_put : (env : ℕ → List ℕ) (s : Storage) → IsScalarIn s → (us : List ℕ) (a v spare : ℕ) → Has us v → AreApart depth (spare ∷ us)
      → Lives depth scalars env us (put_into s a v spare) us
  scalar_put env _ (in_temporary k lt) us a v spare m h = only depth scalars env (copy k v) us us (inr m, comes_scalar depth scalars env k us lt)
  scalar_put env _ (in_word y) us a v spare m h =
      first depth scalars env (address spare y) (store spare v ∷ []) us (spare ∷ us) us (refl, comes_new depth scalars env spare us h)
      (only depth scalars env (store spare v) (spare ∷ us) us (inr (inl refl), inr (inr m), within_rest spare us))

  pub object_place : (s : Storage) → IsScalarIn s → IsPlace (object s)
  object_place s h = record {
    many = λ d. refl;
    each = λ xs d t l b k. record {
      behind = xs;
      marks = [];
      many = refl;
      lives = λ env m. within_same xs;
      below = (let low : d ≤ d + 0 = omega arith in below_more depth d (d + 0) xs low b);
      got = λ env v spare a. scalar_got env s h xs v 0 spare (apart_within depth (v ∷ xs) (spare ∷ v ∷ xs) (within_rest spare (v ∷ xs)) a);
      put = λ env us v spare w m a. scalar_put env s h us 0 v spare m a;
      settle = λ env us v w m a. within_first v xs us m w;
      deep = λ v e. (let q : d + 0 ≡ d = omega arith in depth_as depth scalars v (d + 0) d q e);
    };
  }

  pub element_place : (base : Base) (of : CType) (i : Value) → IsStacked depth scalars i → IsPlace (element (Elements base of) i)
  element_place base of i p = record {
    many = (address_stacked base of i p).many;
    each = λ xs d t l b k.
        let x = (address_stacked base of i p).each xs d t l b k in
        let a = (address_in (Elements base of) i).result t in
        record {
          behind = a ∷ xs;
          marks = x.marks;
          many = x.many;
          lives = x.lives;
          below = stacked depth d a xs x.deep b;
          got = λ env v spare h.
              fetched_lives env (a ∷ xs) of v a spare (v ∷ a ∷ xs) (inl refl)
              (comes_new depth scalars env v (a ∷ xs) (apart_within depth (v ∷ a ∷ xs) (spare ∷ v ∷ a ∷ xs) (within_rest spare (v ∷ a ∷ xs)) h)) (inl refl) h;
          put = λ env us v spare w m h. put_at_lives env us of a v (w a (inl refl)) m;
          settle = λ env us v w m h.
              first depth scalars env (copy a v) [] us us (a ∷ xs) (inr m, comes_again depth scalars env a us (w a (inl refl)) h) w;
          deep = λ v e. x.deep;
        };
  }

  pub object_stacked : (s : Storage) → IsScalarIn s → IsStacked depth scalars (read_object s)
  object_stacked s h = leaf_stacked depth scalars (λ t. got_from s t 0 0) (λ env xs d t b e. scalar_got env s h xs t 0 0 (fresh depth d t xs e b))

  -- ---- assignments

  pub assigned_stacked : (p : Designated) (b : Value) → IsPlace p → IsStacked depth scalars b → IsStacked depth scalars (assigned p b)
  assigned_stacked p b h q = record {
    many = λ d.
        (let e = sum_of ℕ ((opened p).depths d) (b.depths (d + beside p) ++ (d + beside p + 1) ∷ []) (opened p).temps (b.temps + 1) (h.many d)
        (sum_of ℕ (b.depths (d + beside p)) ((d + beside p + 1) ∷ []) b.temps 1 (q.many (d + beside p)) refl) in omega (arith, e));
    each = λ xs d t l below k.
        let o = opened p in let e = d + beside p in
        let rest = b.depths e ++ (e + 1) ∷ [] in
        let x = h.each xs d t l below (deep_first depth scalars t (o.depths d) rest k) in
        let behind = deep_second depth scalars t o.temps (o.depths d) rest (h.many d) k in
        let a = o.result t in let u = t + o.temps in let r = b.result u in let spare = u + b.temps in
        let y = q.each x.behind e u (l + o.labels) x.below (deep_first depth scalars u (b.depths e) ((e + 1) ∷ []) behind) in
        let last = deep_second depth scalars u b.temps (b.depths e) ((e + 1) ∷ []) (q.many e) behind in
        let us = r ∷ x.behind in
        let up = stacked depth e r x.behind y.deep x.below in
        record {
          marks = x.marks ++ y.marks;
          many = sum_of (List ℕ) x.marks y.marks o.labels b.labels x.many y.many;
          lives = λ env m.
              let end = settled p a r in let stores = put_into (storage_in p) a r spare ++ end in
              lives_then depth scalars env (o.ops t l) (b.ops u (l + o.labels) ++ stores) xs x.behind (settled_in p a r ∷ xs)
              (x.lives env (marked_first depth scalars env l x.marks y.marks m))
              (lives_then depth scalars env (b.ops u (l + o.labels)) stores x.behind us (settled_in p a r ∷ xs)
              (y.lives env (marked_second depth scalars env l o.labels x.marks y.marks x.many m))
              (lives_then depth scalars env (put_into (storage_in p) a r spare) end us us (settled_in p a r ∷ xs)
              (x.put env us r spare (within_rest r x.behind) (inl refl) (fresh depth (e + 1) spare us last.0 up))
              (x.settle env us r (within_rest r x.behind) (inl refl) (apart_below depth (e + 1) us up))));
          deep = x.deep r y.deep;
        };
  }

  abbrev helper_marks : Operation → List ℕ → List (List ℕ)
  helper_marks (operation.Operator o) xs = []
  helper_marks (operation.Helper f) xs = xs ∷ []

  helper_many : (o : Operation) (xs : List ℕ) → length (helper_marks o xs) ≡ operation_labels o
  helper_many (operation.Operator o) xs = refl
  helper_many (operation.Helper f) xs = refl

  combined_lives : (env : ℕ → List ℕ) (bytes : ℕ) (o : Operation) (of by : CType) (xs : List ℕ) (v b l : ℕ) → Marked depth scalars env l (helper_marks o xs)
      → AreApart depth xs → AreApart depth (v ∷ xs) → Lives depth scalars env (b ∷ v ∷ xs) (combined bytes o of by v b l) (v ∷ xs)
  combined_lives env bytes (operation.Operator o) of by xs v b l m g h = computed_lives env xs o _ v b
  combined_lives env bytes (operation.Helper f) of by xs v b l m g h =
      let ys = b ∷ v ∷ xs in
      first depth scalars env (store_top v) (store_home b bytes ∷ Close (Calls f) l ∷ read_result v ∷ []) ys ys (v ∷ xs) (refl, inr (inr (inl refl)), within_same ys)
      (first depth scalars env (store_home b bytes) (Close (Calls f) l ∷ read_result v ∷ []) ys ys (v ∷ xs) (refl, inr (inl refl), within_same ys)
      (first depth scalars env (Close (Calls f) l) (read_result v ∷ []) ys xs (v ∷ xs) (sym m.0, g, λ i k. inr (inr k))
      (only depth scalars env (read_result v) xs (v ∷ xs) (refl, comes_new depth scalars env v xs h))))

  pub compound_stacked : (bytes : ℕ) (o : Operation) (of by : CType) (p : Designated) (b : Value) → IsPlace p → IsStacked depth scalars b
      → IsStacked depth scalars (compound bytes o of p by b)
  compound_stacked bytes o of by p b h q = record {
    many = λ d.
        (let g = d + beside p in
        let e = sum_of ℕ ((opened p).depths d) (g ∷ (g + 1) ∷ (b.depths (g + 1) ++ (g + 1) ∷ (g + 1) ∷ [])) (opened p).temps (2 + (b.temps + 2)) (h.many d)
        (let n = sum_of ℕ (b.depths (g + 1)) ((g + 1) ∷ (g + 1) ∷ []) b.temps 2 (q.many (g + 1)) refl in omega (arith, n)) in omega (arith, e));
    each = λ xs d t l below k.
        let a = opened p in let e = d + beside p in
        let last_two = (e + 1) ∷ (e + 1) ∷ [] in let inner = b.depths (e + 1) ++ last_two in
        let rest = e ∷ (e + 1) ∷ inner in
        let n = l + operation_labels o in
        let x = h.each xs d t n below (deep_first depth scalars t (a.depths d) rest k) in
        let deep = deep_second depth scalars t a.temps (a.depths d) rest (h.many d) k in
        let r = a.result t in let v = t + a.temps in let u = v + 2 in let free = u + b.temps in
        let two : suc (suc v) ≡ v + 2 = omega arith in
        let behind = deep_as depth scalars (suc (suc v)) u inner two deep.1.1 in
        let us = v ∷ x.behind in
        let up = stacked depth e v x.behind deep.0 x.below in
        let spare = nth 1 rest v (e + 1) refl deep in
        let y = q.each us (e + 1) u (n + a.labels) up (deep_first depth scalars u (b.depths (e + 1)) last_two behind) in
        let ends = deep_second depth scalars u b.temps (b.depths (e + 1)) last_two (q.many (e + 1)) behind in
        let rb = b.result u in
        let own = helper_marks o x.behind in
        let whole = sum_of (List ℕ) own (x.marks ++ y.marks) (operation_labels o) (a.labels + b.labels) (helper_many o x.behind) (sum_of (List ℕ) x.marks y.marks a.labels b.labels x.many y.many) in
        record {
          marks = own ++ (x.marks ++ y.marks);
          many = omega (arith, whole);
          lives = λ env m.
              let inside = marked_second depth scalars env l (operation_labels o) own (x.marks ++ y.marks) (helper_many o x.behind) m in
              let end = settled p r v in
              let stores = put_into (storage_in p) r v (free + 1) ++ end in
              let narrows = narrowed of v free ++ stores in
              let combines = combined bytes o of by v rb l ++ narrows in
              let evaluates = b.ops u (n + a.labels) ++ combines in
              let to = settled_in p r v ∷ xs in
              lives_then depth scalars env (a.ops t n) (got_from (storage_in p) v r (v + 1) ++ evaluates) xs x.behind to
              (x.lives env (marked_first depth scalars env n x.marks y.marks inside))
              (lives_then depth scalars env (got_from (storage_in p) v r (v + 1)) evaluates x.behind us to
              (x.got env v (v + 1) (fresh depth (e + 1) (v + 1) us spare up))
              (lives_then depth scalars env (b.ops u (n + a.labels)) combines us (rb ∷ us) to
              (y.lives env (marked_second depth scalars env n a.labels x.marks y.marks x.many inside))
              (lives_then depth scalars env (combined bytes o of by v rb l) narrows (rb ∷ us) us to
              (combined_lives env bytes o of by x.behind v rb l (marked_first depth scalars env l own (x.marks ++ y.marks) m) (apart_below depth e x.behind x.below) (apart_below depth (e + 1) us up))
              (lives_then depth scalars env (narrowed of v free) stores us us to (narrowed_lives env us of v free (inl refl) (fresh depth (e + 1) free us ends.0 up))
              (lives_then depth scalars env (put_into (storage_in p) r v (free + 1)) end us us to
              (x.put env us v (free + 1) (within_rest v x.behind) (inl refl) (fresh depth (e + 1) (free + 1) us (nth 1 last_two free (e + 1) refl ends) up))
              (x.settle env us v (within_rest v x.behind) (inl refl) (apart_below depth (e + 1) us up)))))));
          deep = x.deep v deep.0;
        };
  }

  -- ---- steps

  pub before_stacked : (o : StepOperator) (of : CType) (p : Designated) → IsPlace p → IsStacked depth scalars (stepped_before o of p)
  before_stacked o of p h = record {
    many = λ d. (let g = d + beside p in sum_of ℕ ((opened p).depths d) (g ∷ (g + 1) ∷ (g + 1) ∷ (g + 1) ∷ (g + 1) ∷ []) (opened p).temps 5 (h.many d) refl);
    each = λ xs d t l below k.
        let a = opened p in let e = d + beside p in
        let rest = e ∷ (e + 1) ∷ (e + 1) ∷ (e + 1) ∷ (e + 1) ∷ [] in
        let x = h.each xs d t l below (deep_first depth scalars t (a.depths d) rest k) in
        let deep = deep_second depth scalars t a.temps (a.depths d) rest (h.many d) k in
        let r = a.result t in let v = t + a.temps in
        let us = v ∷ x.behind in
        let up = stacked depth e v x.behind deep.0 x.below in
        record {
          marks = x.marks;
          many = x.many;
          lives = λ env m.
              let to = settled_in p r v ∷ xs in
              let end = settled p r v in
              let stores = put_into (storage_in p) r v (v + 4) ++ end in
              let narrows = narrowed of v (v + 3) ++ stores in
              let steps = operate (step_operator o) v (v + 2) in
              lives_then depth scalars env (a.ops t l) (got_from (storage_in p) v r (v + 1) ++ (constant (v + 2) 1 ∷ steps ∷ narrows)) xs x.behind to (x.lives env m)
              (lives_then depth scalars env (got_from (storage_in p) v r (v + 1)) (constant (v + 2) 1 ∷ steps ∷ narrows) x.behind us to
              (x.got env v (v + 1) (fresh depth (e + 1) (v + 1) us (nth 1 rest v (e + 1) refl deep) up))
              (first depth scalars env (constant (v + 2) 1) (steps ∷ narrows) us ((v + 2) ∷ us) to
              (refl, comes_new depth scalars env (v + 2) us (fresh depth (e + 1) (v + 2) us (nth 2 rest v (e + 1) refl deep) up))
              (first depth scalars env steps narrows ((v + 2) ∷ us) us to (inr (inr (inl refl)), inr (inl refl), within_rest (v + 2) us)
              (lives_then depth scalars env (narrowed of v (v + 3)) stores us us to
              (narrowed_lives env us of v (v + 3) (inl refl) (fresh depth (e + 1) (v + 3) us (nth 3 rest v (e + 1) refl deep) up))
              (lives_then depth scalars env (put_into (storage_in p) r v (v + 4)) end us us to
              (x.put env us v (v + 4) (within_rest v x.behind) (inl refl) (fresh depth (e + 1) (v + 4) us (nth 4 rest v (e + 1) refl deep) up))
              (x.settle env us v (within_rest v x.behind) (inl refl) (apart_below depth (e + 1) us up)))))));
          deep = x.deep v deep.0;
        };
  }

  pub after_stacked : (o : StepOperator) (of : CType) (p : Designated) → IsPlace p → IsStacked depth scalars (stepped_after o of p)
  after_stacked o of p h = record {
    many = λ d. (let g = d + beside p in sum_of ℕ ((opened p).depths d) (g ∷ (g + 1) ∷ (g + 1) ∷ (g + 2) ∷ (g + 2) ∷ (g + 2) ∷ []) (opened p).temps 6 (h.many d) refl);
    each = λ xs d t l below k.
        let a = opened p in let e = d + beside p in
        let rest = e ∷ (e + 1) ∷ (e + 1) ∷ (e + 2) ∷ (e + 2) ∷ (e + 2) ∷ [] in
        let x = h.each xs d t l below (deep_first depth scalars t (a.depths d) rest k) in
        let deep = deep_second depth scalars t a.temps (a.depths d) rest (h.many d) k in
        let r = a.result t in let v = t + a.temps in let n = v + 2 in
        let us = v ∷ x.behind in
        let up = stacked depth e v x.behind deep.0 x.below in
        let ws = n ∷ us in
        let higher = stacked depth (e + 1) n us (nth 2 rest v (e + 1) refl deep) up in
        let two : e + 1 + 1 ≡ e + 2 = omega arith in
        let top = subst (λ (k : ℕ). Below depth k ws) two higher in
        let keeps : Within x.behind ws = λ i k. inr (inr k) in
        record {
          marks = x.marks;
          many = x.many;
          lives = λ env m.
              let to = settled_in p r v ∷ xs in
              let end = settled p r v in
              let stores = put_into (storage_in p) r n (v + 5) ++ end in
              let narrows = narrowed of n (v + 4) ++ stores in
              let steps = operate (step_operator o) n (v + 3) in
              let copies = copy n v ∷ constant (v + 3) 1 ∷ steps ∷ narrows in
              lives_then depth scalars env (a.ops t l) (got_from (storage_in p) v r (v + 1) ++ copies) xs x.behind to (x.lives env m)
              (lives_then depth scalars env (got_from (storage_in p) v r (v + 1)) copies x.behind us to
              (x.got env v (v + 1) (fresh depth (e + 1) (v + 1) us (nth 1 rest v (e + 1) refl deep) up))
              (first depth scalars env (copy n v) (constant (v + 3) 1 ∷ steps ∷ narrows) us ws to
              (inr (inl refl), comes_new depth scalars env n us (apart_below depth (e + 2) ws top))
              (first depth scalars env (constant (v + 3) 1) (steps ∷ narrows) ws ((v + 3) ∷ ws) to
              (refl, comes_new depth scalars env (v + 3) ws (fresh depth (e + 2) (v + 3) ws (nth 3 rest v (e + 2) refl deep) top))
              (first depth scalars env steps narrows ((v + 3) ∷ ws) ws to (inr (inr (inl refl)), inr (inl refl), within_rest (v + 3) ws)
              (lives_then depth scalars env (narrowed of n (v + 4)) stores ws ws to
              (narrowed_lives env ws of n (v + 4) (inl refl) (fresh depth (e + 2) (v + 4) ws (nth 4 rest v (e + 2) refl deep) top))
              (lives_then depth scalars env (put_into (storage_in p) r n (v + 5)) end ws ws to
              (x.put env ws n (v + 5) keeps (inl refl) (fresh depth (e + 2) (v + 5) ws (nth 5 rest v (e + 2) refl deep) top))
              (x.settle env ws v keeps (inr (inl refl)) (apart_below depth (e + 2) ws top))))))));
          deep = x.deep v deep.0;
        };
  }
