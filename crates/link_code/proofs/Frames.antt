-- The frames of active calls: where each goes on after the one below it, kept in a word that no call may touch.
use Rattle.std.proofs.Common.{◌≡◌, ℕ, ◌+◌, ◌-◌, ◌*◌, ◌%◌, ◌<◌, ◌≤◌, Bool, true, false, cond, List, [], ◌∷◌, length, Option, Some, None, refl, sym, subst, ◌∙◌, arith, inl, inr}
use Rattle.std.specs.Prelude.{◌⊎◌}
use Rattle.rtl_effect.specs.Views.{word_at}
use Rattle.temp_machine.specs.Routines.{Routine, word_bytes, pushed}
use Rattle.temp_machine.specs.Machine.{Active, Waiting, is_between, is_in_some_arrays, may_touch, taken_by, taken_by_callers}
use Rattle.link_code.proofs.Memory.{word_same, outside_below, outside_above}
use Rattle.link_code.specs.Linked.{Job, code, block_place}
use Rattle.link_code.specs.Runs.{Stands, LinkFits, IsLinkable, IsCode}
use Rattle.link_code.proofs.Glue.{ret_off}

module _ (j : Job) (is : IsLinkable j) where
  abbrev off : ℕ → ℕ
  off f = ret_off j.t j.t.link (code j f)

  abbrev first : ℕ → ℕ
  first f = (code j f).first_home

  abbrev frame : ℕ → ℕ
  frame f = (code j f).frame

  abbrev homes : ℕ → ℕ
  homes f = (word_bytes j.t) * (code j f).slots

  abbrev params : ℕ → ℕ
  params f = (code j f).params

  abbrev pub IsRet : ℕ → ℕ → ℕ → Type 0
  IsRet f base a = (base + ret_off j.t j.t.link (code j f) ≤ a) × (a < base + ret_off j.t j.t.link (code j f) + (word_bytes j.t))

  abbrev pub InRets : List Waiting → ℕ → Type 0
  InRets [] a = ⊥
  InRets (c ∷ cs) a = IsRet c.active.function c.active.base a ⊎ InRets cs a

  pub record Waits (b : ℕ → Option ℕ) (ps high back : ℕ) (c : Active) : Type 0 where
    pub known : Stands c.function j.order
    pub high_is : high ≡ c.base
    pub back_is : back ≡ block_place j c.function c.block
    pub aligned : c.base % (word_bytes j.t) ≡ 0
    pub outgoing : (word_bytes j.t) * ps + (word_bytes j.t) ≤ (code j c.function).first_home
    pub back' : ℕ
    pub saved : word_at b (c.base + ret_off j.t j.t.link (code j c.function)) (word_bytes j.t) ≡ Some back'

  -- the callers of a call with so many parameters, whose frame ends at `high` and that goes back to `back`
  abbrev pub Chain : (ℕ → Option ℕ) → ℕ → ℕ → List Waiting → ℕ → Type 0
  Chain b ps high [] back = (high ≡ j.t.memory) × (back ≡ 2)
  Chain b ps high (c ∷ cs) back = (x : Waits b ps high back c.active) × Chain b (code j c.active.function).params (c.active.base + (code j c.active.function).frame + (pushed j.t)) cs x.back'

  record Off (o : Option ℕ) (c : Routine) : Type 0 where
    pub low : c.first_home ≤ ret_off j.t o c + (word_bytes j.t)
    pub high : ret_off j.t o c + (word_bytes j.t) ≤ c.frame + (pushed j.t)
    pub apart : (ret_off j.t o c + (word_bytes j.t) ≤ c.first_home) ⊎ (c.frame ≤ ret_off j.t o c)

  off_by : (o : Option ℕ) → LinkFits o (pushed j.t) (word_bytes j.t) j.t.sp j.t.result → (f : ℕ) → IsCode j f → Off o (code j f)
  off_by None e f c = let h = c.homes_inside in record { low = omega (arith, h); high = omega (arith, e); apart = inr (omega arith) }
  off_by (Some z) e f c = let h = c.homes_inside in let n = e.0 in let p = c.outgoing in record { low = omega (arith, p); high = omega (arith, h, p, n); apart = inl (omega (arith, p)) }

  off_is : (f : ℕ) → Stands f j.order → Off j.t.link (code j f)
  off_is f s = off_by j.t.link is.links f (is.codes f s)

  pub pushed_small : (pushed j.t) ≤ (word_bytes j.t)
  pushed_small = by j.t.link is.links
    where
      by : (o : Option ℕ) → LinkFits o (pushed j.t) (word_bytes j.t) j.t.sp j.t.result → (pushed j.t) ≤ (word_bytes j.t)
      by None e = omega (arith, e)
      by (Some z) e = let n = e.0 in omega (arith, n)

  pub chain_room : (b : ℕ → Option ℕ) (ps high : ℕ) (cs : List Waiting) (back : ℕ) → Chain b ps high cs back → j.t.memory ≤ high + taken_by_callers j.t j.p cs
  chain_room b ps high [] back h = let e = h.0 in omega (arith, e)
  chain_room b ps high (c ∷ cs) back h = let r = chain_room b (code j c.active.function).params (c.active.base + (code j c.active.function).frame + (pushed j.t)) cs (h.0.back') h.1 in let e = h.0.high_is in omega (arith, r, e, pushed_small)

  pub chain_low : (b : ℕ → Option ℕ) (ps high : ℕ) (cs : List Waiting) (back : ℕ) → Chain b ps high cs back → high ≤ j.t.memory
  chain_low b ps high [] back h = let e = h.0 in omega (arith, e)
  chain_low b ps high (c ∷ cs) back h = let r = chain_low b (code j c.active.function).params (c.active.base + (code j c.active.function).frame + (pushed j.t)) cs (h.0.back') h.1 in let e = h.0.high_is in omega (arith, r, e)

  outside_arrays : (f base a : ℕ) → (a < base + first f + homes f) ⊎ (base + frame f ≤ a) → is_between (base + first f + homes f) (base + frame f) a ≡ false
  outside_arrays f base a (inl h) = outside_below (base + first f + homes f) (base + frame f) a h
  outside_arrays f base a (inr h) = outside_above (base + first f + homes f) (base + frame f) a h

  or_false : (b c : Bool) → b ≡ false → c ≡ false → cond b true c ≡ false
  or_false b c e f = λ i. cond (e i) true (f i)

  -- below all frames there is no array of theirs
  chain_below : (b : ℕ → Option ℕ) (ps high : ℕ) (cs : List Waiting) (back : ℕ) → Chain b ps high cs back → (a : ℕ) → a < high → is_in_some_arrays j.t j.p cs a ≡ false
  chain_below b ps high [] back h a l = refl
  chain_below b ps high (c ∷ cs) back h a l =
      let e = h.0.high_is in
      or_false _ _ (outside_arrays c.active.function c.active.base a (inl (omega (arith, e, l)))) (chain_below b (code j c.active.function).params (c.active.base + (code j c.active.function).frame + (pushed j.t)) cs (h.0.back') h.1 a (omega (arith, e, l)))

  ret_apart : (f base a : ℕ) → Stands f j.order → IsRet f base a → (a < base + first f + homes f) ⊎ (base + frame f ≤ a)
  ret_apart f base a s i = by (off_is f s).apart
    where
      by : (off f + (word_bytes j.t) ≤ first f) ⊎ (frame f ≤ off f) → (a < base + first f + homes f) ⊎ (base + frame f ≤ a)
      by (inl p) = inl (let h = i.1 in omega (arith, p, h))
      by (inr p) = inr (let h = i.0 in omega (arith, p, h))

  pub rets_high : (b : ℕ → Option ℕ) (ps high : ℕ) (cs : List Waiting) (back : ℕ) → Chain b ps high cs back → (a : ℕ) → InRets cs a → high + (word_bytes j.t) * ps ≤ a
  rets_high b ps high [] back h a i = absurd i
  rets_high b ps high (c ∷ cs) back h a (inl i) = let e = h.0.high_is in let o = h.0.outgoing in let l = (off_is c.active.function h.0.known).low in let n = i.0 in omega (arith, e, o, l, n)
  rets_high b ps high (c ∷ cs) back h a (inr i) =
      let e = h.0.high_is in let o = h.0.outgoing in let g = (is.codes c.active.function h.0.known).homes_inside in let n = rets_high b (code j c.active.function).params (c.active.base + (code j c.active.function).frame + (pushed j.t)) cs (h.0.back') h.1 a i in omega (arith, e, o, g, n)

  rets_no_arrays : (b : ℕ → Option ℕ) (ps high : ℕ) (cs : List Waiting) (back : ℕ) → Chain b ps high cs back → (a : ℕ) → InRets cs a → is_in_some_arrays j.t j.p cs a ≡ false
  rets_no_arrays b ps high [] back h a i = refl
  rets_no_arrays b ps high (c ∷ cs) back h a (inl i) =
      or_false _ _ (outside_arrays c.active.function c.active.base a (ret_apart c.active.function c.active.base a h.0.known i))
      (chain_below b (code j c.active.function).params (c.active.base + (code j c.active.function).frame + (pushed j.t)) cs (h.0.back') h.1 a (let l = (off_is c.active.function h.0.known).high in let n = i.1 in omega (arith, l, n)))
  rets_no_arrays b ps high (c ∷ cs) back h a (inr i) =
      or_false _ _ (outside_arrays c.active.function c.active.base a (inr (let n = rets_high b (code j c.active.function).params (c.active.base + (code j c.active.function).frame + (pushed j.t)) cs (h.0.back') h.1 a i in omega (arith, n)))) (rets_no_arrays b (code j c.active.function).params (c.active.base + (code j c.active.function).frame + (pushed j.t)) cs (h.0.back') h.1 a i)

  six : (a b b' c d e f : Bool) → a ≡ false → b ≡ false → b' ≡ false → c ≡ false → d ≡ false → f ≡ false → cond a true (cond b true (cond b' true (cond c true (cond d true (cond e false f))))) ≡ false
  six a b b' c d e f p q q' r s x = (λ i. cond (p i) true (cond (q i) true (cond (q' i) true (cond (r i) true (cond (s i) true (cond e false (x i))))))) ∙ last e
    where
      last : (e : Bool) → cond e false false ≡ false
      last true = refl
      last false = refl

  module _ (b : ℕ → Option ℕ) (top : Active) (cs : List Waiting) (back : ℕ) (known : Stands top.function j.order)
      (chain : Chain b (code j top.function).params (top.base + (code j top.function).frame + (pushed j.t)) cs back) (room : taken_by j.t j.p top + taken_by_callers j.t j.p cs ≤ j.t.stack) where
    abbrev f : ℕ
    f = top.function

    abbrev base : ℕ
    base = top.base

    data_low : j.t.base + length j.p.bytes ≤ base
    data_low = let r = chain_room b _ _ cs back chain in let s = is.room in omega (arith, r, s, room, pushed_small)

    outside_homes : (a : ℕ) → (a < base + first f) ⊎ (base + frame f ≤ a) → is_between (base + first f) (base + first f + homes f) a ≡ false
    outside_homes a (inl h) = outside_below (base + first f) (base + first f + homes f) a h
    outside_homes a (inr h) = outside_above (base + first f) (base + first f + homes f) a (let g = (is.codes f known).homes_inside in omega (arith, h, g))

    outgoing_above : (a : ℕ) → base + first f ≤ a + word_bytes j.t → is_between base (base + first f - word_bytes j.t * (1 + length j.t.kept)) a ≡ false
    outgoing_above a h = subst (λ xs. is_between base (base + first f - word_bytes j.t * (1 + length xs)) a ≡ false) (sym is.none_kept) (outside_above base (base + first f - word_bytes j.t * 1) a (omega (arith, h)))

    -- the place where the call on top goes back is out of its reach
    pub top_private : (a : ℕ) → IsRet f base a → may_touch j.t j.p top cs a ≡ false
    top_private a i =
        let o = off_is f known in
        let l = i.0 in
        let h = i.1 in
        let low = o.low in
        let high = o.high in
        let some = (is.codes f known).outgoing in
        six _ _ _ _ _ _ _
        (outside_above j.t.base (j.t.base + length j.p.bytes) a (omega (arith, l, data_low)))
        (outside_arrays f base a (ret_apart f base a known i))
        (chain_below b _ _ cs back chain a (omega (arith, high, h)))
        (outgoing_above a (omega (arith, low, l)))
        (outside_below (base + frame f + (pushed j.t)) (base + frame f + (pushed j.t) + (word_bytes j.t) * params f) a (omega (arith, high, h)))
        (outside_homes a (by o.apart))
      where
        by : (off f + (word_bytes j.t) ≤ first f) ⊎ (frame f ≤ off f) → (a < base + first f) ⊎ (base + frame f ≤ a)
        by (inl p) = inl (let h = i.1 in omega (arith, p, h))
        by (inr p) = inr (let h = i.0 in omega (arith, p, h))

    -- those of the callers too
    pub waiting_private : (a : ℕ) → InRets cs a → may_touch j.t j.p top cs a ≡ false
    waiting_private a i =
        let h = rets_high b _ _ cs back chain a i in
        let g = (is.codes f known).homes_inside in
        six _ _ _ _ _ _ _
        (outside_above j.t.base (j.t.base + length j.p.bytes) a (omega (arith, h, data_low)))
        (outside_arrays f base a (inr (omega (arith, h))))
        (rets_no_arrays b _ _ cs back chain a i)
        (outgoing_above a (omega (arith, h, g)))
        (outside_above (base + frame f + (pushed j.t)) (base + frame f + (pushed j.t) + (word_bytes j.t) * params f) a (omega (arith, h)))
        (outside_homes a (inr (omega (arith, h))))

  -- callers stay as they are where the words in which they are kept do
  pub chain_kept : (b b' : ℕ → Option ℕ) (ps high : ℕ) (cs : List Waiting) (back : ℕ) → ((a : ℕ) → InRets cs a → b' a ≡ b a) → Chain b ps high cs back → Chain b' ps high cs back
  chain_kept b b' ps high [] back same h = h
  chain_kept b b' ps high (c ∷ cs) back same h =
      let x = h.0 in (
        record {
          known = x.known;
          high_is = x.high_is;
          back_is = x.back_is;
          aligned = x.aligned;
          outgoing = x.outgoing;
          back' = x.back';
          saved = word_same b' b (c.active.base + off c.active.function) (word_bytes j.t) (λ a p q. same a (inl (p, q))) ∙ x.saved;
        },
        chain_kept b b' (code j c.active.function).params (c.active.base + (code j c.active.function).frame + (pushed j.t)) cs (h.0.back') (λ a i. same a (inr i)) h.1,
      )
