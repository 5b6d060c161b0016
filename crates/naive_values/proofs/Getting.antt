-- Operations that bring a value to a temporary, one after the other.
use Rattle.std.proofs.Common.{◌≡◌, ◌≢◌, ℕ, zero, suc, ◌+◌, ◌*◌, ◌-◌, ◌%◌, ◌/◌, ◌^◌, ◌≤◌, ◌<◌, List, [], ◌∷◌, ◌++◌, Option, Some, None, Result, Ok, Err, refl, sym, ap, ◌∙◌, subst, arith, true, false}
use Rattle.std.specs.Prelude.{slice_index}
use Rattle.std.specs.Int.Bits.{bit_and}
use Rattle.std.proofs.lemmas.Nat.{and_mask}
use Rattle.std.proofs.Math.Nat.{mod-eq_of_lt, mul_comm}
use Rattle.behaviour.proofs.Stepping.{comes_refl, comes_trans}
use Rattle.rtl_word.specs.Words.{IsWordSize, word_sxb}
use Rattle.rtl_word.proofs.Below.{by_size}
use Rattle.rtl_word.proofs.Bitwise.{sxb_same, sxb_low}
use Rattle.rtl_tree.specs.declared.cells.Cell.TheVariants.{Hard, Temp}
use Rattle.rtl_tree.specs.declared.expressions.Width.TheVariants.{Byte, Full}
use Rattle.rtl_tree.specs.declared.expressions.UnOp.TheVariants.{Sxb}
use Rattle.rtl_tree.specs.declared.expressions.BinOp.TheVariants as op
use Rattle.rtl_tree.specs.Trees.{Tree, Number, Symbol as SymbolTree, Read, Load, Unary, Binary}
use Rattle.rtl_effect.specs.Views.{View, seen, touched, word_at}
use Rattle.rtl_effect.specs.Effects.{is_input}
use Rattle.md_shapes.specs.declared.patterns.Pattern.{Pattern}
use Rattle.md_shapes.specs.declared.patterns.Pattern.TheVariants as shape
use Rattle.md_shapes.specs.Shapes.{Frame as Fixed, Open, shape_moves, set_cell}
use Rattle.c_tree.specs.declared.types.CType.{CType}
use Rattle.c_tree.specs.declared.types.CType.TheVariants as type
use Rattle.c_tree.specs.declared.typed.Function.{Function}
use Rattle.c_tree.specs.declared.typed.Typed.{Typed}
use Rattle.c_limits.specs.Frames.{word_bytes, element_bytes}
use Rattle.c_meaning.specs.Operators.{as_type}
use Rattle.temp_machine.specs.Routines.{Image, Target}
use Rattle.temp_machine.specs.Live.{Place}
use Rattle.temp_machine.specs.Small.{Point}
use Rattle.naive_code.specs.Operations as code
use Rattle.naive_code.specs.Operations.{Op, Make, Meet, Extend, on_two, with_number, with_symbol}
use Rattle.naive_code.specs.Storage.{Base, Symbol, Frame}
use Rattle.naive_code.specs.Expressions.{base_ops, scaled, addressed, fetched, narrowed}
use Rattle.naive_run.specs.Standing.{shaped, One, Stands}
use Rattle.naive_step.proofs.Doing.{M}
use Rattle.naive_step.proofs.Making.{Call, Inside, At, routine_in}
use Rattle.naive_step.proofs.Acts.{SetsTemp, Reached, set_temp}
use Rattle.naive_step.proofs.Ways.{UsesUp, make_has, meet}
use Rattle.naive_step.proofs.Scaling.{seen_two, scale}
use Rattle.naive_step.proofs.Extending.{Extends, extend}
use Rattle.naive_rep.proofs.Rep.{address_of}
use Rattle.naive_assigned.proofs.Areas.{bytes_are}
use Rattle.naive_assigned.proofs.Ready.{Ready, touches_lowest, frame_not_empty}
use Rattle.naive_assigned.proofs.Working.{Works, works_refl, works_trans, works_fewer, works_fresh, works_sets, works_uses, works_extends}

whole_word : (w x : ℕ) → IsWordSize w → x % 2 ^ w ≡ x → x % 256 ^ word_bytes w ≡ x
whole_word w x z = by_size (λ w. x % 2 ^ w ≡ x → x % 256 ^ word_bytes w ≡ x) (λ h. omega (arith, h)) (λ h. omega (arith, h)) w z

byte_is_word : (w : ℕ) → IsWordSize w → 255 < 2 ^ w
byte_is_word w z = by_size (λ w. 255 < 2 ^ w) (omega arith) (omega arith) w z

module _ (t : Target) (u : Image) (m : Fixed) (k : Call) where
  -- the operations of one list, and then those of another
  pub stands_split : (xs ys : List Op) (p q : Place) → Stands t.word m (routine_in t u k) (xs ++ ys) p q
      → (r : Place) × Stands t.word m (routine_in t u k) xs p r × Stands t.word m (routine_in t u k) ys r q
  stands_split [] ys p q h = (p, refl, h)
  stands_split (x ∷ xs) ys p q (r, one, rest) = let i = stands_split xs ys r q rest in (i.0, (r, one, i.1), i.2)

module _ (t : Target) (u : Image) (m : Fixed) (source : Typed) (f : Function) (k : Call) (ready : Ready t u m source f k) where
  abbrev pub To : Place → (Point → Type 0) → Point → Type 0
  To = Reached t u m k ready.fits

  abbrev pub Ops : List Op → Place → Place → Type 0
  Ops = Stands t.word m (routine_in t u k)

  abbrev pub Work : ℕ → ℕ → Point → Point → Type 0
  Work = Works t u m source f k

  -- a value is in the temporary, and fresh temporaries were used up
  pub record Gets (a x first : ℕ) (c d : Point) : Type 0 where
    pub temp : d.view.cells (Temp a) ≡ Some x
    pub works : Work a first c d

  pub to_here : (p q : Place) (P : Point → Type 0) (c : Point) → q ≡ p → Inside t u k c → At t u p c → P c → To q P c
  to_here p q P c same i h fact = record { point = c; comes = comes_refl (M t u) c; inside = i; at = subst (λ r. At t u r c) (sym same) h; fact = fact }

  pub to_place : (p q : Place) (P : Point → Type 0) (c : Point) → q ≡ p → To p P c → To q P c
  to_place p q P c same r = subst (λ z. To z P c) (sym same) r

  pub to_as : (q : Place) (P Q : Point → Type 0) (c : Point) → To q P c → ((d : Point) → P d → Q d) → To q Q c
  to_as q P Q c r each = record { point = r.point; comes = r.comes; inside = r.inside; at = r.at; fact = each r.point r.fact }

  pub to_then : (p q : Place) (P Q : Point → Type 0) (c : Point) → To p P c → ((d : Point) → Inside t u k d → At t u p d → P d → To q Q d) → To q Q c
  to_then p q P Q c r on =
      let z = on r.point r.inside r.at r.fact in
      record { point = z.point; comes = comes_trans (M t u) c r.point z.point r.comes z.comes; inside = z.inside; at = z.at; fact = z.fact }

  -- a value is brought to a temporary behind other work on it
  pub gets_after : (a y first : ℕ) (p q : Place) (P : Point → Type 0) (c : Point) → To p P c → ((d : Point) → P d → Work a first c d)
      → ((d : Point) → Inside t u k d → At t u p d → P d → To q (Gets a y first d) d) → To q (Gets a y first c) c
  gets_after a y first p q P c r works on =
      to_then p q P (Gets a y first c) c r (λ d i h fact.
      to_as q (Gets a y first d) (Gets a y first c) d (on d i h fact)
      (λ e g. record { temp = g.temp; works = works_trans t u m source f k a first c d e (works d fact) g.works }))

  -- ---- one transfer

  module _ (p q : Place) (c : Point) (i : Inside t u k c) (h : At t u p c) where
    pub sets : (pattern : Pattern) (o : Open) (a : ℕ) (e : Tree) (x : Option ℕ) → One t.word m (routine_in t u k) (Make pattern o) p q → shape_moves m pattern o ≡ set_cell (Temp a) e
        → is_input e ≡ false → seen t.word e c.view ≡ Ok x → To q (SetsTemp a x c) c
    sets pattern o a e x one is quiet sees = set_temp t u m k ready.fits (shaped pattern o) p q c (make_has t u m k ready.fits pattern o p q one) i h a e x is quiet sees

    pub sets_number : (a n : ℕ) → One t.word m (routine_in t u k) (code.constant a n) p q → To q (SetsTemp a (Some n) c) c
    sets_number a n one = sets shape.SetNumber (with_number a n) a (Number n) (Some n) one refl refl refl

    pub copies : (a b : ℕ) (x : Option ℕ) → One t.word m (routine_in t u k) (code.copy a b) p q → c.view.cells (Temp b) ≡ x → To q (SetsTemp a x c) c
    copies a b x one holds = sets shape.Copy (on_two a b) a (Read (Temp b)) x one refl refl (ap Ok holds)

  pub gets_sets : (a x first : ℕ) (q : Place) (c : Point) → To q (SetsTemp a (Some x) c) c → To q (Gets a x first c) c
  gets_sets a x first q c r = to_as q _ _ c r (λ d g. record { temp = g.temp; works = works_sets t u m source f k a first (Some x) c d g })

  -- ---- conversions

  module _ (p q : Place) (c : Point) (i : Inside t u k c) (h : At t u p c) where
    -- a word stays
    stays : (of : CType) (v spare x : ℕ) → as_type t.word of x ≡ x → c.view.cells (Temp v) ≡ Some x → q ≡ p → To q (Gets v (as_type t.word of x) spare c) c
    stays of v spare x same holds last = to_here p q _ c last i h (record { temp = holds ∙ ap Some (sym same); works = works_refl t u m source f k v spare c })

    pub narrows : (of : CType) (v spare x : ℕ) → v < spare → x < 2 ^ t.word → c.view.cells (Hard t.sp) ≡ Some k.base → c.view.cells (Temp v) ≡ Some x → Ops (narrowed of v spare) p q
        → To q (Gets v (as_type t.word of x) spare c) c
    narrows type.Schar v spare x lt small sp holds (r, one, last) =
        to_place r q _ c last
        (to_as r _ _ c
        (extend t u m k ready.fits p r c i h v spare x (λ e. omega (arith, e, lt)) ready.target.size ready.fixed.stack sp (λ w s. touches_lowest t u m source f k ready w s) holds one)
        (λ d g. record { temp = g.temp; works = works_extends t u m source f k v spare spare (word_sxb t.word x) c d (frame_not_empty t u m source f k ready) (omega arith) g }))
    narrows type.Uchar v spare x lt small sp holds (r, one, (s, two, last)) =
        let ne : v ≢ spare = λ e. omega (arith, e, lt) in
        gets_after v (x % 256) spare r q (SetsTemp spare (Some 255) c) c (sets_number p r c i h spare 255 one)
        (λ d g. works_fresh t u m source f k spare v spare c d (omega arith) (works_sets t u m source f k spare spare (Some 255) c d g))
        (λ d j a g. to_place s q _ d last
        (to_as s _ _ d (meet t u m k ready.fits r s d j a v spare x 255 ne (byte_is_word t.word ready.target.size) (g.others v ne ∙ holds) g.temp two)
        (λ e z. record { temp = z.temp ∙ ap Some (and_mask x 8); works = works_uses t u m source f k v spare spare _ d e (omega arith) z })))
    narrows type.Int v spare x lt small sp holds last = stays type.Int v spare x (mod-eq_of_lt small) holds last
    narrows type.Unsigned v spare x lt small sp holds last = stays type.Unsigned v spare x (mod-eq_of_lt small) holds last
    narrows type.Void v spare x lt small sp holds last = stays type.Void v spare x (mod-eq_of_lt small) holds last

    -- ---- elements

    -- the value of an element from its address
    loads : (of : CType) (v at spare address x : ℕ) → x % 2 ^ t.word ≡ x → c.view.cells (Temp at) ≡ Some address → touched (word_bytes t.word) c.view (Some address) ≡ Ok address
        → word_at c.view.bytes address (word_bytes t.word) ≡ Some (x % 256 ^ word_bytes t.word) → Ops (code.load v at ∷ []) p q → To q (Gets v x spare c) c
    loads of v at spare address x typed holds touches is (r, one, last) =
        let bytes : word_bytes t.word ≡ t.word / 8 = sym (bytes_are t.word ready.target.size) in
        let touches' : touched (t.word / 8) c.view (Some address) ≡ Ok address = subst (λ n. touched n c.view (Some address) ≡ Ok address) bytes touches in
        let is' : word_at c.view.bytes address (t.word / 8) ≡ Some x =
        subst (λ n. word_at c.view.bytes address n ≡ Some x) bytes (is ∙ ap Some (whole_word t.word x ready.target.size typed)) in
        to_place r q _ c last
        (gets_sets v x spare r c (sets p r c i h shape.Load (on_two v at) v (Load Full (Read (Temp at))) (Some x) one refl refl (rw (holds, touches', is') refl)))

    loads_byte : (v at spare address x : ℕ) → c.view.cells (Temp at) ≡ Some address → touched 1 c.view (Some address) ≡ Ok address → word_at c.view.bytes address 1 ≡ Some (x % 256)
        → (r : Place) → One t.word m (routine_in t u k) (code.load_byte v at) p r → To r (SetsTemp v (Some (word_sxb t.word x)) c) c
    loads_byte v at spare address x holds touches is r one =
        let same : word_sxb t.word (x % 256) ≡ word_sxb t.word x = sxb_same t.word (x % 256) x (omega arith) in
        sets p r c i h shape.LoadByte (on_two v at) v (Unary Sxb (Load Byte (Read (Temp at)))) (Some (word_sxb t.word x)) one refl refl
        (rw (holds, touches, is) (ap (λ z. Ok (Some z)) same))

    pub fetches : (of : CType) (v at spare address x : ℕ) → v < spare → as_type t.word of x ≡ x → c.view.cells (Temp at) ≡ Some address
        → touched (element_bytes t.word of) c.view (Some address) ≡ Ok address → word_at c.view.bytes address (element_bytes t.word of) ≡ Some (x % 256 ^ element_bytes t.word of)
        → Ops (fetched of v at spare) p q → To q (Gets v x spare c) c
    fetches type.Schar v at spare address x lt typed holds touches is (r, one, last) =
        to_place r q _ c last
        (gets_sets v x spare r c (subst (λ y. To r (SetsTemp v (Some y) c) c) typed (loads_byte v at spare address x holds touches is r one)))
    fetches type.Uchar v at spare address x lt typed holds touches is (r, one, (s, two, (z, three, last))) =
        let ne : v ≢ spare = λ e. omega (arith, e, lt) in
        let low : bit_and (word_sxb t.word x) 255 ≡ x = and_mask (word_sxb t.word x) 8 ∙ (sxb_low t.word x ready.target.size ∙ typed) in
        gets_after v x spare r q (SetsTemp v (Some (word_sxb t.word x)) c) c (loads_byte v at spare address x holds touches is r one) (λ d g. works_sets t u m source f k v spare _ c d g)
        (λ d j a g. gets_after v x spare s q (SetsTemp spare (Some 255) d) d (sets_number r s d j a spare 255 two)
        (λ e y. works_fresh t u m source f k spare v spare d e (omega arith) (works_sets t u m source f k spare spare (Some 255) d e y))
        (λ e j' a' y. to_place z q _ e last
        (to_as z _ _ e (meet t u m k ready.fits s z e j' a' v spare (word_sxb t.word x) 255 ne (byte_is_word t.word ready.target.size) (y.others v ne ∙ g.temp) y.temp three)
        (λ b x'. record { temp = x'.temp ∙ ap Some low; works = works_uses t u m source f k v spare spare _ e b (omega arith) x' }))))
    fetches type.Int v at spare address x lt typed holds touches is ops = loads type.Int v at spare address x typed holds touches is ops
    fetches type.Unsigned v at spare address x lt typed holds touches is ops = loads type.Unsigned v at spare address x typed holds touches is ops
    fetches type.Void v at spare address x lt typed holds touches is ops = loads type.Void v at spare address x typed holds touches is ops

    -- the address at which an array begins
    pub bases : (base : Base) (a : ℕ) → c.view.cells (Hard t.sp) ≡ Some k.base → address_of t u k base < 2 ^ t.word → Ops (base_ops base a) p q → To q (Gets a (address_of t u k base) (a + 1) c) c
    bases (Symbol y) a sp small (r, one, last) =
        to_place r q _ c last
        (gets_sets a _ (a + 1) r c (sets p r c i h shape.SetSymbol (with_symbol a y) a (SymbolTree y) (Some (slice_index u.symbols y)) one refl refl (ap (λ z. Ok (Some z)) (i.shows.symbols y))))
    bases (Frame offset) a sp small (r, one, (s, two, (z, three, last))) =
        let sp' : c.view.cells (Hard m.stack) ≡ Some k.base = ap (λ n. c.view.cells (Hard n)) ready.fixed.stack ∙ sp in
        let ne : a ≢ a + 1 = λ e. omega (arith, e) in
        gets_after a (k.base + offset) (a + 1) r q (SetsTemp a (Some k.base) c) c (sets p r c i h shape.ReadStack (on_two a a) a (Read (Hard m.stack)) (Some k.base) one refl refl (ap Ok sp'))
        (λ d g. works_sets t u m source f k a (a + 1) _ c d g)
        (λ d j at g. gets_after a (k.base + offset) (a + 1) s q (SetsTemp (a + 1) (Some offset) d) d (sets_number r s d j at (a + 1) offset two)
        (λ e y. works_fresh t u m source f k (a + 1) a (a + 1) d e (omega arith) (works_sets t u m source f k (a + 1) (a + 1) _ d e y))
        (λ e j' at' y. to_place z q _ e last
        (gets_sets a (k.base + offset) (a + 1) z e
        (sets s z e j' at' (shape.Operate op.Add) (on_two a (a + 1)) a (Binary op.Add (Read (Temp a)) (Read (Temp (a + 1)))) (Some (k.base + offset)) three refl refl
        (seen_two t.word op.Add a (a + 1) k.base offset (k.base + offset) e.view (y.others a ne ∙ g.temp) y.temp (ap Ok (mod-eq_of_lt small)))))))

    word_scales : (v spare x : ℕ) → v < spare → word_bytes t.word * x < 2 ^ t.word → c.view.cells (Temp v) ≡ Some x → (r : Place) → One t.word m (routine_in t u k) (code.Scale v spare) p r
        → To r (Gets v (word_bytes t.word * x) spare c) c
    word_scales v spare x lt small holds r one =
        let same : x * (t.word / 8) ≡ word_bytes t.word * x = ap (λ n. x * n) (bytes_are t.word ready.target.size) ∙ mul_comm x (word_bytes t.word) in
        to_as r _ _ c (scale t u m k ready.fits p r c i h v spare x (λ e. omega (arith, e, lt)) ready.target.size (omega (arith, same, small)) holds one)
        (λ d g. record { temp = g.temp ∙ ap Some same; works = works_uses t u m source f k v spare spare _ c d (omega arith) g })

    -- an index times the size of an element
    scales : (of : CType) (v spare x : ℕ) → v < spare → element_bytes t.word of * x < 2 ^ t.word → c.view.cells (Temp v) ≡ Some x → Ops (scaled of v spare) p q
        → To q (Gets v (element_bytes t.word of * x) spare c) c
    scales type.Schar v spare x lt small holds last = to_here p q _ c last i h (record { temp = holds ∙ ap Some (omega arith); works = works_refl t u m source f k v spare c })
    scales type.Uchar v spare x lt small holds last = to_here p q _ c last i h (record { temp = holds ∙ ap Some (omega arith); works = works_refl t u m source f k v spare c })
    scales type.Int v spare x lt small holds (r, one, last) = to_place r q _ c last (word_scales v spare x lt small holds r one)
    scales type.Unsigned v spare x lt small holds (r, one, last) = to_place r q _ c last (word_scales v spare x lt small holds r one)
    scales type.Void v spare x lt small holds (r, one, last) = to_place r q _ c last (word_scales v spare x lt small holds r one)

  -- the address of an element takes the place of its index
  pub addresses : (p q : Place) (c : Point) → Inside t u k c → At t u p c → (base : Base) (of : CType) (v a x : ℕ) → v < a → c.view.cells (Hard t.sp) ≡ Some k.base
      → address_of t u k base + element_bytes t.word of * x < 2 ^ t.word → c.view.cells (Temp v) ≡ Some x → Ops (addressed base of v a) p q
      → To q (Gets v (address_of t u k base + element_bytes t.word of * x) a c) c
  addresses p q c i h base of v a x lt sp small holds ops =
      let first = stands_split t u m k (scaled of v (a + 2)) (base_ops base a ++ code.add v a ∷ []) p q ops in
      let second = stands_split t u m k (base_ops base a) (code.add v a ∷ []) first.0 q first.2 in
      let z = address_of t u k base + element_bytes t.word of * x in
      let ne : v ≢ a = λ e. omega (arith, e, lt) in
      gets_after v z a first.0 q (Gets v (element_bytes t.word of * x) (a + 2) c) c (scales p first.0 c i h of v (a + 2) x (omega (arith, lt)) (omega (arith, small)) holds first.1)
      (λ d g. works_fewer t u m source f k v (a + 2) a c d (omega arith) g.works)
      (λ d j at g. gets_after v z a second.0 q (Gets a (address_of t u k base) (a + 1) d) d (bases first.0 second.0 d j at base a (g.works.stack ∙ sp) (omega (arith, small)) second.1)
      (λ e y. works_fresh t u m source f k a v a d e (omega arith) (works_fewer t u m source f k a (a + 1) a d e (omega arith) y.works))
      (λ e j' at' y. add_last second.0 e j' at' (y.works.temps v (omega (arith, lt)) ne ∙ g.temp) y.temp second.2))
    where
      add_last : (s : Place) (e : Point) → Inside t u k e → At t u s e → e.view.cells (Temp v) ≡ Some (element_bytes t.word of * x) → e.view.cells (Temp a) ≡ Some (address_of t u k base)
          → Ops (code.add v a ∷ []) s q → To q (Gets v (address_of t u k base + element_bytes t.word of * x) a e) e
      add_last s e j at index is (r, one, last) =
          to_place r q _ e last
          (gets_sets v _ a r e
          (sets s r e j at (shape.Operate op.Add) (on_two v a) v (Binary op.Add (Read (Temp v)) (Read (Temp a))) (Some (address_of t u k base + element_bytes t.word of * x)) one refl refl
          (seen_two t.word op.Add v a (element_bytes t.word of * x) (address_of t u k base) _ e.view index is
          (ap Ok (mod-eq_of_lt (let lt : element_bytes t.word of * x + address_of t u k base < 2 ^ t.word = omega (arith, small) in lt)
          ∙ (let same : element_bytes t.word of * x + address_of t u k base ≡ address_of t u k base + element_bytes t.word of * x = omega arith in same))))))
