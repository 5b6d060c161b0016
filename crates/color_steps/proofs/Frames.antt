-- The frames of active calls: each apart from the others, with its homes out of reach.
use Rattle.std.proofs.Common.{◌≡◌, ℕ, ◌+◌, ◌-◌, ◌*◌, ◌%◌, ◌^◌, ◌<◌, ◌≤◌, ◌&&◌, Bool, true, false, cond, List, [], ◌∷◌, length, Option, Some, None, refl, sym, ap, ◌∙◌, subst, arith, inl, inr}
use Rattle.std.specs.Prelude.{◌⊎◌, slice_index}
use Rattle.rtl_tree.specs.declared.cells.Cell.{Cell}
use Rattle.rtl_tree.specs.declared.cells.Cell.TheVariants.{Temp}
use Rattle.rtl_effect.specs.Views.{word_at}
use Rattle.rtl_effect.specs.Agree.{Tells}
use Rattle.temp_machine.specs.Routines.{Routine, Image, Target, word_bytes, pushed, pushed_by}
use Rattle.temp_machine.specs.Cells.{has_temporaries}
use Rattle.temp_machine.specs.Machine.{Active, Waiting, is_between, is_in_some_arrays, may_touch, taken_by, taken_by_callers}
use Rattle.temp_machine.specs.Live.{Place}
use Rattle.temp_machine.specs.Whole.{IsFramed}
use Rattle.color_code.specs.Colors.{Seats}
use Rattle.color_spilling.specs.Passing.{home_address}
use Rattle.color_spilling.proofs.Memory.{and_of, and_left, and_right, inside_of, inside_low, inside_high, outside_below, outside_above, word_same}
use Rattle.color_spilling.proofs.Steps.{by_bytes}
use Rattle.color_holding.specs.Holding.{is_home}
use Rattle.color_holding.specs.Places.{IsOf}
use Rattle.color_steps.proofs.Tables.{IsTabledImage, live_at}

abbrev pub call : ℕ → ℕ → ℕ → (ℕ → Option ℕ) → Active
call f k base temps = record { function = f; block = k; base = base; temps = temps }

abbrev pub wait : ℕ → ℕ → ℕ → (ℕ → Option ℕ) → (ℕ → Option ℕ) → Waiting
wait f k base temps regs = record { active = call f k base temps; regs = regs }

pub record Job : Type 0 where
  pub t : Target
  pub old : Image
  pub new : Image
  pub seats : ℕ → Seats
  pub live : ℕ → Place → Cell → Bool
  pub is : IsTabledImage t old new seats live

module _ (j : Job) where
  abbrev pub routine : ℕ → Routine
  routine f = j.old.routines f

  abbrev pub Stands : ℕ → Type 0
  Stands f = 0 < length (j.old.routines f).blocks

  -- what is live at the begin of a block
  abbrev pub live_in : ℕ → ℕ → Cell → Bool
  live_in f k = live_at j.t (routine f) (j.seats f) (j.live f) k 0

  abbrev pub own : ℕ → ℕ → ℕ → Bool
  own f base a = is_home j.t (routine f) (j.seats f) base a

  pub framed : (f : ℕ) → Stands f → IsFramed j.t (routine f)
  framed f s = (j.is.image.routines f s).framed

  -- what is kept of a caller while it waits
  pub record Waits (v z : ℕ → Option ℕ) (f k base : ℕ) (temps temps' : ℕ → Option ℕ) : Type 0 where
    pub stands : Stands f
    pub seated : (i : ℕ) → live_in f k (Temp i) ≡ true → j.seats f i ≡ None
    pub homes : (i : ℕ) → live_in f k (Temp i) ≡ true → Tells (temps i) (word_at z (home_address j.t (routine f) base i) (word_bytes j.t))
    pub blank : (a : ℕ) → own f base a ≡ true → v a ≡ None
    pub aligned : base % word_bytes j.t ≡ 0
    pub words : (i n : ℕ) → temps i ≡ Some n → n < 2 ^ j.t.word
    pub new_words : (i n : ℕ) → temps' i ≡ Some n → n < 2 ^ j.t.word

  -- the callers on both sides, from the address at which the first of them begins
  pub data Chain (v z : ℕ → Option ℕ) : ℕ → ℕ → List Waiting → List Waiting → Type 0 where
    bottom : (params high : ℕ) → high ≡ j.t.memory → Chain v z params high [] []
    link : (params f k base : ℕ) (temps temps' regs regs' : ℕ → Option ℕ) (cs ds : List Waiting) → Waits v z f k base temps temps'
        → word_bytes j.t * params + word_bytes j.t ≤ (routine f).first_home → Chain v z (routine f).params (base + (routine f).frame + pushed j.t) cs ds
        → Chain v z params base (wait f k base temps regs ∷ cs) (wait f k base temps' regs' ∷ ds)

  -- an address in the homes of one of the calls
  abbrev pub InHomes : List Waiting → ℕ → Type 0
  InHomes [] a = ⊥
  InHomes (c ∷ cs) a = (own c.active.function c.active.base a ≡ true) ⊎ InHomes cs a

  home_inside : (f base a : ℕ) → Stands f → own f base a ≡ true
      → (base + (routine f).first_home ≤ a) × (a < base + (routine f).first_home + word_bytes j.t * (routine f).slots) × (a < base + (routine f).frame)
  home_inside f base a s e =
      let w = and_right (has_temporaries (routine f)) _ e in
      let h = (framed f s).fits in
      let i = inside_high _ _ a w in
      (inside_low _ _ a w, i, omega (arith, h, i))

  pub pushed_small : pushed j.t ≤ word_bytes j.t
  pushed_small = by j.t.link
    where
      by : (o : Option ℕ) → pushed_by o (word_bytes j.t) ≤ word_bytes j.t
      by None = omega arith
      by (Some n) = omega arith

  pub chain_room : (v z : ℕ → Option ℕ) (params high : ℕ) (cs ds : List Waiting) → Chain v z params high cs ds → j.t.memory ≤ high + taken_by_callers j.t j.old cs
  chain_room v z params high cs ds (bottom p h e) = omega (arith, e)
  chain_room v z params high cs ds (link p f k base temps temps' regs regs' cs' ds' w o rest) = let r = chain_room v z _ _ cs' ds' rest in omega (arith, r, pushed_small)

  pub chain_low : (v z : ℕ → Option ℕ) (params high : ℕ) (cs ds : List Waiting) → Chain v z params high cs ds → high ≤ j.t.memory
  chain_low v z params high cs ds (bottom p h e) = omega (arith, e)
  chain_low v z params high cs ds (link p f k base temps temps' regs regs' cs' ds' w o rest) = let r = chain_low v z _ _ cs' ds' rest in omega (arith, r)

  pub chain_same : (v z : ℕ → Option ℕ) (params high : ℕ) (cs ds : List Waiting) → Chain v z params high cs ds → taken_by_callers j.t j.new ds ≡ taken_by_callers j.t j.old cs
  chain_same v z params high cs ds (bottom p h e) = refl
  chain_same v z params high cs ds (link p f k base temps temps' regs regs' cs' ds' w o rest) =
      let fr = (j.is.colored.routines f).frame in
      let r = chain_same v z _ _ cs' ds' rest in
      λ i. fr i + word_bytes j.t + r i

  chain_some : (v z : ℕ → Option ℕ) (params high : ℕ) (cs ds : List Waiting) → Chain v z params high cs ds → (a : ℕ) → is_in_some_arrays j.t j.new ds a ≡ is_in_some_arrays j.t j.old cs a
  chain_some v z params high cs ds (bottom p h e) a = refl
  chain_some v z params high cs ds (link p f k base temps temps' regs regs' cs' ds' w o rest) a =
      let c = j.is.colored.routines f in
      let fr = c.frame in
      let fh = c.first_home in
      let sl = c.slots in
      let r = chain_some v z _ _ cs' ds' rest a in
      λ i. cond (is_between (base + fh i + word_bytes j.t * sl i) (base + fr i) a) true (r i)

  or_false : (b c : Bool) → b ≡ false → c ≡ false → cond b true c ≡ false
  or_false b c e f = λ i. cond (e i) true (f i)

  outside_arrays : (f base a : ℕ) → (a < base + (routine f).first_home + word_bytes j.t * (routine f).slots) ⊎ (base + (routine f).frame ≤ a)
      → is_between (base + (routine f).first_home + word_bytes j.t * (routine f).slots) (base + (routine f).frame) a ≡ false
  outside_arrays f base a (inl h) = outside_below _ _ a h
  outside_arrays f base a (inr h) = outside_above _ _ a h

  -- below all frames there is no array of theirs
  chain_below : (v z : ℕ → Option ℕ) (params high : ℕ) (cs ds : List Waiting) → Chain v z params high cs ds → (a : ℕ) → a < high → is_in_some_arrays j.t j.old cs a ≡ false
  chain_below v z params high cs ds (bottom p h e) a l = refl
  chain_below v z params high cs ds (link p f k base temps temps' regs regs' cs' ds' w o rest) a l =
      or_false _ _ (outside_arrays f base a (inl (omega (arith, l)))) (chain_below v z _ _ cs' ds' rest a (omega (arith, l)))

  pub homes_high : (v z : ℕ → Option ℕ) (params high : ℕ) (cs ds : List Waiting) → Chain v z params high cs ds → (a : ℕ) → InHomes cs a → high + (word_bytes j.t * params + word_bytes j.t) ≤ a
  homes_high v z params high cs ds (bottom p h e) a i = absurd i
  homes_high v z params high cs ds (link p f k base temps temps' regs regs' cs' ds' w o rest) a (inl e) = let h = (home_inside f base a w.stands e).0 in omega (arith, h, o)
  homes_high v z params high cs ds (link p f k base temps temps' regs regs' cs' ds' w o rest) a (inr i) =
      let h = homes_high v z _ _ cs' ds' rest a i in let g = (framed f w.stands).fits in omega (arith, h, o, g)

  homes_no_arrays : (v z : ℕ → Option ℕ) (params high : ℕ) (cs ds : List Waiting) → Chain v z params high cs ds → (a : ℕ) → InHomes cs a → is_in_some_arrays j.t j.old cs a ≡ false
  homes_no_arrays v z params high cs ds (bottom p h e) a i = refl
  homes_no_arrays v z params high cs ds (link p f k base temps temps' regs regs' cs' ds' w o rest) a (inl e) =
      let h = home_inside f base a w.stands e in
      or_false _ _ (outside_arrays f base a (inl (h.1))) (chain_below v z _ _ cs' ds' rest a (let l = h.2 in omega (arith, l)))
  homes_no_arrays v z params high cs ds (link p f k base temps temps' regs regs' cs' ds' w o rest) a (inr i) =
      let h = homes_high v z _ _ cs' ds' rest a i in
      or_false _ _ (outside_arrays f base a (inr (omega (arith, h)))) (homes_no_arrays v z _ _ cs' ds' rest a i)

  six : (a b c d e x : Bool) → a ≡ false → b ≡ false → c ≡ false → d ≡ false → e ≡ false → x ≡ false → cond a true (cond b true (cond c true (cond d true (cond e true x)))) ≡ false
  six a b c d e x p q r s u y = λ i. cond (p i) true (cond (q i) true (cond (r i) true (cond (s i) true (cond (u i) true (y i)))))

  module _ (v z : ℕ → Option ℕ) (f k base : ℕ) (temps : ℕ → Option ℕ) (cs ds : List Waiting) (stands : Stands f)
      (chain : Chain v z (routine f).params (base + (routine f).frame + pushed j.t) cs ds) (room : taken_by j.t j.old (call f k base temps) + taken_by_callers j.t j.old cs ≤ j.t.stack) where
    data_low : j.t.base + length j.old.bytes ≤ base
    data_low = let r = chain_room v z _ _ cs ds chain in let s = j.is.image.room in omega (arith, r, s, room, pushed_small)

    -- the homes of the call on top are out of reach
    pub top_private : (a : ℕ) → own f base a ≡ true → may_touch j.t j.old (call f k base temps) cs a ≡ false
    top_private a e =
        let h = home_inside f base a stands e in
        let low = h.0 in
        let high = h.2 in
        six _ _ _ _ _ _
        (outside_above j.t.base (j.t.base + length j.old.bytes) a (omega (arith, low, data_low)))
        (outside_arrays f base a (inl (h.1)))
        (chain_below v z _ _ cs ds chain a (omega (arith, high)))
        (outside_above base (base + (routine f).first_home - word_bytes j.t * (1 + length j.t.kept)) a (omega (arith, low)))
        (outside_below (base + (routine f).frame + pushed j.t) _ a (omega (arith, high)))
        (ap (λ b. cond b false (is_between (base + (routine f).first_home) (base + (routine f).first_home + word_bytes j.t * (routine f).slots) a)) (and_left _ _ e))

    -- those of the callers too
    pub waiting_private : (a : ℕ) → InHomes cs a → may_touch j.t j.old (call f k base temps) cs a ≡ false
    waiting_private a i =
        let h = homes_high v z _ _ cs ds chain a i in
        let g = (framed f stands).fits in
        six _ _ _ _ _ _
        (outside_above j.t.base (j.t.base + length j.old.bytes) a (omega (arith, h, data_low)))
        (outside_arrays f base a (inr (omega (arith, h))))
        (homes_no_arrays v z _ _ cs ds chain a i)
        (outside_above base (base + (routine f).first_home - word_bytes j.t * (1 + length j.t.kept)) a (omega (arith, h, g)))
        (outside_above (base + (routine f).frame + pushed j.t) (base + (routine f).frame + pushed j.t + word_bytes j.t * (routine f).params) a (omega (arith, h)))
        (no_home (has_temporaries (routine f)) (outside_above (base + (routine f).first_home) (base + (routine f).first_home + word_bytes j.t * (routine f).slots) a (omega (arith, h, g))))
      where
        no_home : (b : Bool) {c : Bool} → c ≡ false → cond b false c ≡ false
        no_home true e = refl
        no_home false e = e

    pub not_own : (a : ℕ) → InHomes cs a → own f base a ≡ false
    not_own a i =
        let h = homes_high v z _ _ cs ds chain a i in
        let g = (framed f stands).fits in
        off (has_temporaries (routine f)) (outside_above (base + (routine f).first_home) (base + (routine f).first_home + word_bytes j.t * (routine f).slots) a (omega (arith, h, g)))
      where
        off : (b : Bool) {c : Bool} → c ≡ false → (b && c) ≡ false
        off true e = e
        off false e = refl

  -- what the old call may touch the new one may, and its homes
  module _ (v z : ℕ → Option ℕ) (f k base : ℕ) (temps : ℕ → Option ℕ) (params high : ℕ) (cs ds : List Waiting) (chain : Chain v z params high cs ds) (a : ℕ) where
    abbrev homes_are : Bool
    homes_are = is_between (base + (routine f).first_home) (base + (routine f).first_home + word_bytes j.t * (routine f).slots) a

    abbrev in_data : Bool
    in_data = is_between j.t.base (j.t.base + length j.old.bytes) a

    abbrev in_arrays : Bool
    in_arrays = is_between (base + (routine f).first_home + word_bytes j.t * (routine f).slots) (base + (routine f).frame) a

    abbrev in_others : Bool
    in_others = is_in_some_arrays j.t j.old cs a

    abbrev in_outgoing : Bool
    in_outgoing = is_between base (base + (routine f).first_home - word_bytes j.t * (1 + length j.t.kept)) a

    abbrev in_params : Bool
    in_params = is_between (base + (routine f).frame + pushed j.t) (base + (routine f).frame + pushed j.t + word_bytes j.t * (routine f).params) a

    abbrev beside : Bool → Bool
    beside x = cond in_data true (cond in_arrays true (cond in_others true (cond in_outgoing true (cond in_params true x))))

    new_reach : may_touch j.t j.new (call f k base temps) ds a ≡ beside homes_are
    new_reach =
        let c = j.is.colored.routines f in
        let bs = j.is.colored.bytes in
        let fr = c.frame in
        let fh = c.first_home in
        let sl = c.slots in
        let ps = c.params in
        let no = c.plain in
        let some = chain_some v z params high cs ds chain a in
        λ i.
        cond (is_between j.t.base (j.t.base + length (bs i)) a) true
        (cond (is_between (base + fh i + word_bytes j.t * sl i) (base + fr i) a) true
        (cond (some i) true
        (cond (is_between base (base + fh i - word_bytes j.t * (1 + length j.t.kept)) a) true
        (cond (is_between (base + fr i + pushed j.t) (base + fr i + pushed j.t + word_bytes j.t * ps i) a) true
        (cond (no i) false (is_between (base + fh i) (base + fh i + word_bytes j.t * sl i) a))))))

    up : (a b c d e x y : Bool) → (x ≡ true → y ≡ true) → cond a true (cond b true (cond c true (cond d true (cond e true x)))) ≡ true → cond a true (cond b true (cond c true (cond d true (cond e true y)))) ≡ true
    up true b c d e x y g h = refl
    up false true c d e x y g h = refl
    up false false true d e x y g h = refl
    up false false false true e x y g h = refl
    up false false false false true x y g h = refl
    up false false false false false x y g h = g h

    fewer : (b c : Bool) → cond b false c ≡ true → c ≡ true
    fewer true c e = absurd (let k : false ≡ true = e in cc)
    fewer false c e = e

    pub reach_up : (k' : ℕ) (temps' : ℕ → Option ℕ) → may_touch j.t j.old (call f k' base temps') cs a ≡ true → may_touch j.t j.new (call f k base temps) ds a ≡ true
    reach_up k' temps' e = new_reach ∙ up in_data in_arrays in_others in_outgoing in_params (cond (has_temporaries (routine f)) false homes_are) homes_are (fewer (has_temporaries (routine f)) homes_are) e

    pub homes_up : homes_are ≡ true → may_touch j.t j.new (call f k base temps) ds a ≡ true
    homes_up e = new_reach ∙ last in_data in_arrays in_others in_outgoing in_params homes_are e
      where
        last : (a b c d e x : Bool) → x ≡ true → cond a true (cond b true (cond c true (cond d true (cond e true x)))) ≡ true
        last true b c d e x h = refl
        last false true c d e x h = refl
        last false false true d e x h = refl
        last false false false true e x h = refl
        last false false false false true x h = refl
        last false false false false false x h = h

  -- callers stay as they are where the bytes of their homes do
  waits_kept : (f k base : ℕ) (temps temps' v z v' z' : ℕ → Option ℕ) → Waits v z f k base temps temps' → ((a : ℕ) → own f base a ≡ true → (v' a ≡ v a) × (z' a ≡ z a)) → Waits v' z' f k base temps temps'
  waits_kept f k base temps temps' v z v' z' w h = record {
    stands = w.stands;
    seated = w.seated;
    homes = λ i e. subst (Tells (temps i)) (word_same z z' (home_address j.t (routine f) base i) (word_bytes j.t) (λ b p q. sym ((h b (in_homes i b e p q)).1))) (w.homes i e);
    blank = λ a e. (h a e).0 ∙ w.blank a e;
    aligned = w.aligned;
    words = w.words;
    new_words = w.new_words;
  }
    where
      in_homes : (i b : ℕ) → live_in f k (Temp i) ≡ true → home_address j.t (routine f) base i ≤ b → b < home_address j.t (routine f) base i + word_bytes j.t → own f base b ≡ true
      in_homes i b e p q = and_of _ _ stands (inside_of _ _ b (omega (arith, p)) (omega (arith, q, ends)))
        where
          is_of : IsOf (routine f) i
          is_of = (j.is.tabled f w.stands).living k i e

          stands : has_temporaries (routine f) ≡ true
          stands = is_of.stands

          ends : home_address j.t (routine f) base i + word_bytes j.t ≤ base + (routine f).first_home + word_bytes j.t * (routine f).slots
          ends =
              let h = is_of.home in
              by_bytes (λ n. base + ((routine f).first_home + n * slice_index (routine f).homes i) + n ≤ base + (routine f).first_home + n * (routine f).slots) (omega (arith, h)) (omega (arith, h)) j.t.word j.is.target.size

  pub chain_kept : (v z v' z' : ℕ → Option ℕ) (params high : ℕ) (cs ds : List Waiting) → Chain v z params high cs ds → ((a : ℕ) → InHomes cs a → (v' a ≡ v a) × (z' a ≡ z a)) → Chain v' z' params high cs ds
  chain_kept v z v' z' params high cs ds (bottom p h e) g = bottom p h e
  chain_kept v z v' z' params high cs ds (link p f k base temps temps' regs regs' cs' ds' w o rest) g =
      link p f k base temps temps' regs regs' cs' ds' (waits_kept f k base temps temps' v z v' z' w (λ a e. g a (inl e))) o (chain_kept v z v' z' _ _ cs' ds' rest (λ a i. g a (inr i)))
