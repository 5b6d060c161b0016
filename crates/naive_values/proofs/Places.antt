-- The value of a place is read, and a value is stored there.
use Rattle.std.proofs.Common.{◌≡◌, ◌≢◌, ℕ, zero, suc, ◌+◌, ◌*◌, ◌-◌, ◌%◌, ◌/◌, ◌^◌, ◌≤◌, ◌<◌, inl, inr, List, [], ◌∷◌, ◌++◌, Option, Some, None, Ok, refl, sym, ap, ◌∙◌, subst, arith}
use Rattle.std.specs.Prelude.{slice_index}
use Rattle.rtl_word.specs.Words.{IsWordSize}
use Rattle.rtl_tree.specs.declared.cells.Cell.TheVariants.{Hard, Temp}
use Rattle.rtl_tree.specs.declared.expressions.Width.TheVariants.{Byte, Full}
use Rattle.rtl_tree.specs.Trees.{Read, Load, Symbol as SymbolTree}
use Rattle.rtl_effect.specs.Views.{View, touched, word_at}
use Rattle.md_shapes.specs.declared.patterns.Pattern.TheVariants as shape
use Rattle.md_shapes.specs.Shapes.{Frame as Fixed}
use Rattle.c_tree.specs.declared.types.CType.{CType}
use Rattle.c_tree.specs.declared.types.CType.TheVariants as type
use Rattle.c_tree.specs.declared.typed.Variable.{Variable}
use Rattle.c_tree.specs.declared.typed.Function.{Function}
use Rattle.c_tree.specs.declared.typed.Typed.{Typed}
use Rattle.c_limits.specs.Frames.{word_bytes, element_bytes, frame_bytes}
use Rattle.c_meaning.specs.Operators.{as_type}
use Rattle.c_meaning.specs.Parts.{State, Part, Gives, load, store as stored, word}
use Rattle.c_meaning.specs.Expressions.{Kind, scalar, array, type_in, Lvalue}
use Rattle.c_meaning.specs.Run.{kind_in}
use Rattle.temp_machine.specs.Routines.{Image, Target}
use Rattle.temp_machine.specs.Live.{Place}
use Rattle.temp_machine.specs.Small.{Point}
use Rattle.naive_code.specs.Operations.{on_two, with_symbol}
use Rattle.naive_code.specs.Storage.{Base, Storage, Temporary, Word, Elements, Missing, storage_of, scalar_count}
use Rattle.naive_code.specs.Expressions.{Value, Designated, object, element, nowhere, storage_in, settled, settled_in, got_from, put_into, put_at}
use Rattle.naive_run.specs.Standing.{shaped}
use Rattle.naive_step.proofs.Doing.{Does, came}
use Rattle.naive_step.proofs.Making.{Call, Inside, At, routine_in}
use Rattle.naive_step.proofs.Acts.{SetsTemp, Stores, store}
use Rattle.naive_step.proofs.Ways.{make_has}
use Rattle.naive_step.proofs.Memory.{word_same, byte_apart}
use Rattle.naive_rep.proofs.Rooms.{within}
use Rattle.naive_rep.proofs.Rep.{Holds, Rep, address_of}
use Rattle.naive_rep.proofs.Temporaries.{rep_temp, temporary_below}
use Rattle.naive_assigned.proofs.Areas.{Area, area_of, bytes_are}
use Rattle.naive_assigned.proofs.Assigned.{rep_set}
use Rattle.naive_assigned.proofs.Stored.{rep_element, rep_word}
use Rattle.naive_assigned.proofs.Ready.{Ready, area_in, element_aligned, touches_object, object_aligned, object_below}
use Rattle.naive_assigned.proofs.Working.{works_sets, works_fewer, works_refl}
use Rattle.naive_values.proofs.Getting.{To, Ops, Gets, to_here, to_as, to_place, to_then, gets_after, gets_sets, sets, copies, fetches, stands_split}
use Rattle.naive_values.proofs.Asked.{Stands_for, Since, since_trans, since_works, Has, kind_at, storage_at, Kept, in_temporary, in_word, in_array}

module _ (t : Target) (u : Image) (m : Fixed) (source : Typed) (f : Function) (k : Call) (ready : Ready t u m source f k) where
  held_as : (s : State) (c : Point) → Rep t u k source f s c → (x : Variable) (g : Kind) (p : Storage) → kind_in source f x ≡ g → storage_of t.kept t.word source f x ≡ p
      → (i : ℕ) (o : Option ℕ) → load s x i ≡ o → Holds t u k g p i o c
  held_as s c r x g p kind place i o is =
      subst (λ z. Holds t u k g p i z c) is
      (subst (λ z. Holds t u k g z i (load s x i) c) place (subst (λ z. Holds t u k z (storage_of t.kept t.word source f x) i (load s x i) c) kind (r.held x i)))

  abbrev word_area : ℕ → Area
  word_area y = record { from = slice_index u.symbols y; count = t.word / 8 }

  word_has : (x : Variable) (y : ℕ) (by : CType) → storage_of t.kept t.word source f x ≡ Word y → kind_in source f x ≡ scalar by → area_in t u m source f k ready x ≡ Some (word_area y)
  word_has x y by place kind = ap (λ g. area_of t u k g (storage_of t.kept t.word source f x)) kind ∙ ap (area_of t u k (scalar by)) place

  abbrev pub array_area : Base → CType → ℕ → Area
  array_area base by n = record { from = address_of t u k base; count = n * element_bytes t.word by }

  pub array_has : (x : Variable) (base : Base) (by : CType) (n : ℕ) → storage_of t.kept t.word source f x ≡ Elements base by → kind_in source f x ≡ array by n
      → area_in t u m source f k ready x ≡ Some (array_area base by n)
  array_has x base by n place kind = ap (λ g. area_of t u k g (storage_of t.kept t.word source f x)) kind ∙ ap (area_of t u k (array by n)) place

  touches_word : (x : Variable) (y : ℕ) (by : CType) → storage_of t.kept t.word source f x ≡ Word y → kind_in source f x ≡ scalar by → (c : Point) → Inside t u k c
      → touched (t.word / 8) c.view (Some (slice_index u.symbols y)) ≡ Ok (slice_index u.symbols y)
  touches_word x y by place kind c i =
      let is = word_has x y by place kind in
      touches_object t u m source f k ready x (word_area y) is c.view _ (t.word / 8) i.shows (omega arith) (omega arith) (object_aligned t u m source f k ready x (word_area y) is)

  touches_element : (x : Variable) (base : Base) (by : CType) (n i : ℕ) → storage_of t.kept t.word source f x ≡ Elements base by → kind_in source f x ≡ array by n → i < n → (c : Point) → Inside t u k c
      → touched (element_bytes t.word by) c.view (Some (address_of t u k base + element_bytes t.word by * i)) ≡ Ok (address_of t u k base + element_bytes t.word by * i)
  touches_element x base by n i place kind lt c inside =
      let is = array_has x base by n place kind in
      let end = within (element_bytes t.word by) i n lt in
      touches_object t u m source f k ready x (array_area base by n) is c.view _ (element_bytes t.word by) inside.shows (omega arith) (omega (arith, end))
      (element_aligned t.word (address_of t u k base) i by ready.target.size (object_aligned t u m source f k ready x (array_area base by n) is))

  -- the temporaries that reading an element takes are fresh
  abbrev pub Spared : Designated → (v first spare : ℕ) → Type 0
  Spared (object s) v first spare = Unit {0}
  Spared (element s i) v first spare = (v < spare) × (first ≤ spare)
  Spared nowhere v first spare = Unit {0}

  module _ (p q : Place) (c : Point) (i : Inside t u k c) (h : At t u p c) (s : State) (rep : Stands_for t u m source f k ready s c) where
    -- a value comes from where it is kept
    pub gets_kept : (x : Lvalue) (d : Designated) (v a first spare z : ℕ) → Spared d v first spare → Kept t u m source f k ready d x a c → load s x.variable x.index ≡ Some z
        → Ops t u m source f k ready (got_from (storage_in d) v a spare) p q → To t u m source f k ready q (Gets t u m source f k ready v z first c) c
    gets_kept x d v a first spare z spared (in_temporary n by e place kind zero_is) is ops = of_copy (subst (λ d. Ops t u m source f k ready (got_from (storage_in d) v a spare) p q) e ops)
      where
        of_copy : Ops t u m source f k ready (got_from (Temporary n) v a spare) p q → To t u m source f k ready q (Gets t u m source f k ready v z first c) c
        of_copy (r, one, last) =
            let holds : c.view.cells (Temp n) ≡ Some z = held_as s c rep x.variable (scalar by) (Temporary n) kind place x.index (Some z) is zero_is in
            to_place t u m source f k ready r q _ c last
            (gets_sets t u m source f k ready v z first r c (copies t u m source f k ready p r c i h v n (Some z) one holds))
    gets_kept x d v a first spare z spared (in_word y by e place kind zero_is) is ops = of_word (subst (λ d. Ops t u m source f k ready (got_from (storage_in d) v a spare) p q) e ops)
      where
        holds : word_at c.view.bytes (slice_index u.symbols y) (t.word / 8) ≡ Some z
        holds = held_as s c rep x.variable (scalar by) (Word y) kind place x.index (Some z) is zero_is

        of_word : Ops t u m source f k ready (got_from (Word y) v a spare) p q → To t u m source f k ready q (Gets t u m source f k ready v z first c) c
        of_word (r, one, (w, two, last)) =
            gets_after t u m source f k ready v z first r q (SetsTemp v (Some (slice_index u.symbols y)) c) c
            (sets t u m source f k ready p r c i h shape.SetSymbol (with_symbol v y) v (SymbolTree y) (Some (slice_index u.symbols y)) one refl refl (ap (λ z. Ok (Some z)) (i.shows.symbols y)))
            (λ d g. works_sets t u m source f k v first _ c d g)
            (λ d j at g.
            let touches = touches_word x.variable y by place kind d j in
            let bytes : word_at d.view.bytes (slice_index u.symbols y) (t.word / 8) ≡ Some z = word_same c.view.bytes d.view.bytes _ _ (λ b low high. g.bytes b) ∙ holds in
            let to = g.temp in
            to_place t u m source f k ready w q _ d last
            (gets_sets t u m source f k ready v z first w d
            (sets t u m source f k ready r w d j at shape.Load (on_two v v) v (Load Full (Read (Temp v))) (Some z) two refl refl (rw (to, touches, bytes) refl))))
    gets_kept x d v a first spare z spared (in_array base by n w e place kind lt address) is ops =
        let fresh : (v < spare) × (first ≤ spare) = subst (λ d. Spared d v first spare) e spared in
        let typed : as_type t.word by z ≡ z = subst (λ g. as_type t.word (type_in g) z ≡ z) kind (rep.typed x.variable x.index z is) in
        let bytes : word_at c.view.bytes (address_of t u k base + element_bytes t.word by * x.index) (element_bytes t.word by) ≡ Some (z % 256 ^ element_bytes t.word by) =
        held_as s c rep x.variable (array by n) (Elements base by) kind place x.index (Some z) is lt in
        to_as t u m source f k ready q _ _ c
        (fetches t u m source f k ready p q c i h by v a spare (address_of t u k base + element_bytes t.word by * x.index) z fresh.0 typed address
        (touches_element x.variable base by n x.index place kind lt c i) bytes (subst (λ d. Ops t u m source f k ready (got_from (storage_in d) v a spare) p q) e ops))
        (λ d g. record { temp = g.temp; works = works_fewer t u m source f k v spare first c d fresh.1 g.works })

  -- a value is stored: of the temporaries that are no scalars one may have changed
  pub record Puts (spare : ℕ) (s : State) (c d : Point) : Type 0 where
    pub rep : Stands_for t u m source f k ready s d
    pub temps : (j : ℕ) → scalar_count f ≤ j → j ≢ spare → d.view.cells (Temp j) ≡ c.view.cells (Temp j)
    pub above : (b : ℕ) → k.base + frame_bytes t.kept t.word f ≤ b → d.view.bytes b ≡ c.view.bytes b
    pub printed : d.printed ≡ c.printed

  -- bytes that are stored within an object are below the end of the frame
  stores_below : (x : Variable) (z : Area) → area_in t u m source f k ready x ≡ Some z → (at count v : ℕ) (c d : Point) → at + count ≤ z.from + z.count → Stores at count (Some v) c d
      → (b : ℕ) → k.base + frame_bytes t.kept t.word f ≤ b → d.view.bytes b ≡ c.view.bytes b
  stores_below x z is at count v c d to h b from =
      let end = object_below t u m source f k ready x z is in
      byte_apart at count v c.view.bytes d.view.bytes h.bytes b (inr (omega (arith, to, end, from)))

  module _ (p q : Place) (c : Point) (i : Inside t u k c) (h : At t u p c) where
    -- a value is stored at an address
    stores_word : (a v address y : ℕ) → c.view.cells (Temp a) ≡ Some address → c.view.cells (Temp v) ≡ Some y → touched (t.word / 8) c.view (Some address) ≡ Ok address
        → Ops t u m source f k ready (put_at type.Int a v) p q → To t u m source f k ready q (Stores address (t.word / 8) (Some y) c) c
    stores_word a v address y at holds touches (r, one, last) =
        to_place t u m source f k ready r q _ c last
        (store t u m k ready.fits (shaped shape.Store (on_two a v)) p r c (make_has t u m k ready.fits _ _ p r one) i h Full (Read (Temp a)) v address (Some y) refl (ap Ok at) holds touches)

    stores_byte : (a v address y : ℕ) → c.view.cells (Temp a) ≡ Some address → c.view.cells (Temp v) ≡ Some y → touched 1 c.view (Some address) ≡ Ok address
        → Ops t u m source f k ready (put_at type.Schar a v) p q → To t u m source f k ready q (Stores address 1 (Some y) c) c
    stores_byte a v address y at holds touches (r, one, last) =
        to_place t u m source f k ready r q _ c last
        (store t u m k ready.fits (shaped shape.StoreByte (on_two a v)) p r c (make_has t u m k ready.fits _ _ p r one) i h Byte (Read (Temp a)) v address (Some y) refl (ap Ok at) holds touches)

    pub stores_element : (by : CType) (a v address y : ℕ) → c.view.cells (Temp a) ≡ Some address → c.view.cells (Temp v) ≡ Some y → touched (element_bytes t.word by) c.view (Some address) ≡ Ok address
        → Ops t u m source f k ready (put_at by a v) p q → To t u m source f k ready q (Stores address (element_bytes t.word by) (Some y) c) c
    stores_element type.Schar a v address y at holds touches ops = stores_byte a v address y at holds touches ops
    stores_element type.Uchar a v address y at holds touches ops = stores_byte a v address y at holds touches ops
    stores_element type.Int a v address y at holds touches ops =
        subst (λ n. touched n c.view (Some address) ≡ Ok address → To t u m source f k ready q (Stores address n (Some y) c) c) (bytes_are t.word ready.target.size)
        (λ z. stores_word a v address y at holds z ops) touches
    stores_element type.Unsigned a v address y at holds touches ops =
        subst (λ n. touched n c.view (Some address) ≡ Ok address → To t u m source f k ready q (Stores address n (Some y) c) c) (bytes_are t.word ready.target.size)
        (λ z. stores_word a v address y at holds z ops) touches
    stores_element type.Void a v address y at holds touches ops =
        subst (λ n. touched n c.view (Some address) ≡ Ok address → To t u m source f k ready q (Stores address n (Some y) c) c) (bytes_are t.word ready.target.size)
        (λ z. stores_word a v address y at holds z ops) touches

  module _ (p q : Place) (c : Point) (i : Inside t u k c) (h : At t u p c) (s : State) (rep : Stands_for t u m source f k ready s c) where
    pub puts : (x : Lvalue) (d : Designated) (a v spare y : ℕ) → Kept t u m source f k ready d x a c → c.view.cells (Temp v) ≡ Some y → as_type t.word (type_in (kind_in source f x.variable)) y ≡ y → y < 2 ^ t.word
        → scalar_count f ≤ spare → v ≢ spare → Ops t u m source f k ready (put_into (storage_in d) a v spare) p q
        → To t u m source f k ready q (Puts spare (stored s x.variable x.index (Some y)) c) c
    puts x d a v spare y (in_temporary n by e place kind zero_is) holds typed small fresh ne ops = of_copy (subst (λ d. Ops t u m source f k ready (put_into (storage_in d) a v spare) p q) e ops)
      where
        of_copy : Ops t u m source f k ready (put_into (Temporary n) a v spare) p q → To t u m source f k ready q (Puts spare (stored s x.variable x.index (Some y)) c) c
        of_copy (r, one, last) =
            let below = temporary_below t.kept t.word source f x.variable n place by kind in
            let typed' : as_type t.word by y ≡ y = subst (λ g. as_type t.word (type_in g) y ≡ y) kind typed in
            to_place t u m source f k ready r q _ c last
            (to_as t u m source f k ready r _ _ c (copies t u m source f k ready p r c i h n v (Some y) one holds) (λ d g. record {
              rep = subst (λ j. Stands_for t u m source f k ready (stored s x.variable j (Some y)) d) (sym zero_is) (rep_set t u k source f s c d x.variable n y by place kind typed' g rep);
              temps = λ j from away. g.others j (λ e. omega (arith, e, from, below));
              above = λ b from. g.bytes b;
              printed = g.printed;
            }))
    puts x d a v spare y (in_word w by e place kind zero_is) holds typed small fresh ne ops = of_word (subst (λ d. Ops t u m source f k ready (put_into (storage_in d) a v spare) p q) e ops)
      where
        of_word : Ops t u m source f k ready (put_into (Word w) a v spare) p q → To t u m source f k ready q (Puts spare (stored s x.variable x.index (Some y)) c) c
        of_word (r, one, rest) =
            let typed' : as_type t.word by y ≡ y = subst (λ g. as_type t.word (type_in g) y ≡ y) kind typed in
            to_then t u m source f k ready r q (SetsTemp spare (Some (slice_index u.symbols w)) c) _ c
            (sets t u m source f k ready p r c i h shape.SetSymbol (with_symbol spare w) spare (SymbolTree w) (Some (slice_index u.symbols w)) one refl refl (ap (λ z. Ok (Some z)) (i.shows.symbols w)))
            (λ d j at g.
            to_as t u m source f k ready q _ _ d
            (stores_word r q d j at spare v (slice_index u.symbols w) y g.temp (g.others v ne ∙ holds) (touches_word x.variable w by place kind d j) rest)
            (λ z z'. record {
              rep = subst (λ j. Stands_for t u m source f k ready (stored s x.variable j (Some y)) z) (sym zero_is)
                  (rep_word t u k m source f ready.target.size ready.unit ready.low s d z x.variable w y by kind place small typed' z'
                  (rep_temp t u k source f s c d spare (Some (slice_index u.symbols w)) fresh g rep));
              temps = λ j from away. z'.temps j ∙ g.others j away;
              above = λ b from. stores_below x.variable (word_area w) (word_has x.variable w by place kind) _ _ y d z (omega arith) z' b from ∙ g.bytes b;
              printed = z'.printed ∙ g.printed;
            }))
    puts x d a v spare y (in_array base by n w e place kind lt address) holds typed small fresh ne ops =
        let typed' : as_type t.word by y ≡ y = subst (λ g. as_type t.word (type_in g) y ≡ y) kind typed in
        let end = within (element_bytes t.word by) x.index n lt in
        to_as t u m source f k ready q _ _ c
        (stores_element p q c i h by a v (address_of t u k base + element_bytes t.word by * x.index) y address holds (touches_element x.variable base by n x.index place kind lt c i)
        (subst (λ d. Ops t u m source f k ready (put_into (storage_in d) a v spare) p q) e ops))
        (λ z z'. record {
          rep = rep_element t u k m source f ready.target.size ready.unit ready.low s c z x.variable x.index n y base by by kind place lt typed' z' rep;
          temps = λ j from away. z'.temps j;
          above = λ b from. stores_below x.variable (array_area base by n) (array_has x.variable base by n place kind) _ _ y c z (omega (arith, end)) z' b from;
          printed = z'.printed;
        })

    -- the value of an assignment takes the place of an element's address
    pub settles : (d : Designated) (a v first y : ℕ) → c.view.cells (Temp v) ≡ Some y → Ops t u m source f k ready (settled d a v) p q
        → To t u m source f k ready q (Gets t u m source f k ready (settled_in d a v) y first c) c
    settles (object x) a v first y holds last = to_here t u m source f k ready p q _ c last i h (record { temp = holds; works = works_refl t u m source f k v first c })
    settles (element x w) a v first y holds (r, one, last) =
        to_place t u m source f k ready r q _ c last (gets_sets t u m source f k ready a y first r c (copies t u m source f k ready p r c i h a v (Some y) one holds))
    settles nowhere a v first y holds last = to_here t u m source f k ready p q _ c last i h (record { temp = holds; works = works_refl t u m source f k v first c })

  -- what was stored since a point, and what is had behind that
  pub since_puts : (least spare : ℕ) (s : State) (c d : Point) → least ≤ spare → Puts spare s c d → Since t u m source f k ready least c d
  since_puts least spare s c d le g = record { temps = λ j from below. g.temps j from (λ e. omega (arith, e, le, below)); above = g.above }
