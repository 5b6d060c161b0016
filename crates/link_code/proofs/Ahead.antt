-- What the machine does from a place inside a block is what the unit's step does.
use Rattle.std.proofs.Common.{◌≡◌, ℕ, suc, ◌+◌, ◌^◌, ◌<◌, Bool, true, false, List, [], ◌∷◌, ◌++◌, Option, Some, None, Result, Ok, Err, refl, sym, ap, ◌∙◌, subst, arith, inl}
use Rattle.std.specs.Prelude.{◌⊎◌}
use Rattle.rtl_tree.specs.declared.cells.Cell.TheVariants.{Pc}
use Rattle.behaviour.specs.Behaviour.{Ended}
use Rattle.behaviour.specs.Steps.{Move, Goes, Stops, Fails, run, Leads, Comes}
use Rattle.behaviour.proofs.Stepping.{leads_one, leads_comes, comes_trans, leads_then_comes, stops_one}
use Rattle.rtl_effect.specs.Views.{Stop, View}
use Rattle.rtl_effect.specs.Effects.{assigned, went, view_after, Done, effect}
use Rattle.rtl_effect.specs.Agree.{stops, gives, AllAim}
use Rattle.rtl_effect.proofs.EffectGrowth.{both_made, IsMade, effect_made}
use Rattle.rtl_norm_value.specs.Effect.{IsSameEffect, both_stop, both_do}
use Rattle.temp_machine.specs.Machine.{State, unless_halted, made, body_made, printed_with}
use Rattle.link_code.specs.Linked.{Transfer, Job}
use Rattle.link_code.proofs.Machine.{Mach, view_of, mach_with, ends, turn, turned, step, machine}
use Rattle.link_code.specs.Runs.{is_no_temporary, Stands, IsPlain, BodyPlain, IsLinkable}
use Rattle.link_code.proofs.Places.{Here, here_get, here_next, here_short}
use Rattle.link_code.proofs.Holding.{PlaceIs, Held, agrees, body_aims, held_after, held_same, none_assigned}

-- what is done is done alike
same_self : (e : Result Done Stop) → IsSameEffect e e
same_self (Err s) = both_stop s
same_self (Ok d) = both_do d d (record {
  view = record {
    cells = λ c. refl;
    flags = λ n. refl;
    size = refl;
    bytes = λ a. refl;
    reach = λ a. refl;
    symbols = λ n. refl;
    labels = λ l. refl;
    targets = λ l. refl;
    places = λ n. refl;
    input = refl;
  };
  place = refl;
  output = refl;
  halt = refl;
})

module _ (j : Job) (is : IsLinkable j) (R : State → Mach → Type 0) (size : State → ℕ) where
  -- the machine comes to a related state; where it made no turn yet, it makes one, or the size falls
  abbrev pub Arrived : Bool → State → ℕ → Mach → Mach → Type 0
  Arrived true s n m m' = Comes (machine j) m m'
  Arrived false s n m m' = Leads (machine j) m m' ⊎ ((m' ≡ m) × (size s < n))

  abbrev pub Ahead : Bool → ℕ → Move State → Mach → Type 0
  Ahead b n (Goes s) m = (m' : Mach) × R s m' × Arrived b s n m m'
  Ahead b n (Stops out status) m = (k : ℕ) × (run (machine j) m k ≡ Ended out status)
  Ahead b n (Fails out why) m = Unit {0}

  pub leads_first : (b : Bool) (n : ℕ) (x : Move State) (m m1 : Mach) → Leads (machine j) m m1 → Ahead true n x m1 → Ahead b n x m
  leads_first true n (Goes s) m m1 l (m', r, c) = (m', r, comes_trans (machine j) m m1 m' (leads_comes (machine j) m m1 l) c)
  leads_first false n (Goes s) m m1 l (m', r, c) = (m', r, inl (leads_then_comes (machine j) m m1 m' l c))
  leads_first b n (Stops out status) m m1 l (k, e) = (l.steps + k, l.by k ∙ e)
  leads_first b n (Fails out why) m m1 l a = tt

  module _ (f : ℕ) (mine : Stands f j.order) (reach0 : ℕ → Bool) (z0 : ℕ → Option ℕ) (base : ℕ) where
    abbrev pub Holds : View → Mach → Type 0
    Holds v m = Held j is f mine reach0 z0 base v m

    -- one transfer of the unit is one turn of a line that does the same
    pub transfer_ahead : (b : Bool) (n : ℕ) (ms line : Transfer) (xs : List Transfer) (next : ℕ) (v : View) (m : Mach) (h : Holds v m) → IsSameEffect (effect j.t.word ms (view_of j m)) (effect j.t.word line (view_of j m)) → IsPlain j.t ms → AllAim (PlaceIs j is f mine m.place) v (view_of j m) ms
        → Here j m.place (line ∷ xs) next → (go : View → List ℕ → Option ℕ → Move State)
        → ((v' : View) (m1 : Mach) (q : Option ℕ) → Holds v' m1 → went j.t.word (assigned ms Pc) v ≡ Ok q → PlaceIs j is f mine m.place q (Some m1.place) → Ahead true n (go v' m1.out q) m1)
        → Ahead b n (made (effect j.t.word ms v) m.out go) m
    transfer_ahead b n ms line xs next v m h alike flat aims here go next_is =
        by (effect j.t.word ms v) (effect j.t.word ms (view_of j m)) (effect j.t.word line (view_of j m)) refl alike (effect_made (PlaceIs j is f mine m.place) is_no_temporary v (view_of j m) (agrees j is f mine reach0 z0 base v m h) j.t.word ms flat.0 aims)
      where
        small : suc m.place < 2 ^ j.t.word
        small = let l = here_short j m.place line xs next here in let q = is.short in omega (arith, l, q)

        turned_is : (e : Result Done Stop) → effect j.t.word line (view_of j m) ≡ e → step j m ≡ turned j m e
        turned_is e g = ap (turn j m) (here_get j m.place line xs next here) ∙ ap (turned j m) g

        by_place : (o q q' : Option ℕ) (v' z' : View) → PlaceIs j is f mine m.place q q' → step j m ≡ ends j None q' z' (printed_with m.out o)
            → ((p : ℕ) → PlaceIs j is f mine m.place q (Some p) → Ahead true n (go v' (printed_with m.out o) q) (mach_with j z' p (printed_with m.out o))) → Ahead b n (go v' (printed_with m.out o) q) m
        by_place o q (Some p) v' z' r e k = leads_first b n (go v' (printed_with m.out o) q) m (mach_with j z' p (printed_with m.out o)) (leads_one (machine j) m (mach_with j z' p (printed_with m.out o)) e) (k p r)
        by_place o None None v' z' r e k = absurd (grind (arith, r))
        by_place o (Some l) None v' z' r e k = absurd (grind (arith, r))

        by_halt : (hh o q q' : Option ℕ) (v' z' : View) → PlaceIs j is f mine m.place q q' → step j m ≡ ends j hh q' z' (printed_with m.out o)
            → ((p : ℕ) → PlaceIs j is f mine m.place q (Some p) → Ahead true n (go v' (printed_with m.out o) q) (mach_with j z' p (printed_with m.out o))) → Ahead b n (unless_halted hh v' (printed_with m.out o) q go) m
        by_halt None o q q' v' z' r e k = by_place o q q' v' z' r e k
        by_halt (Some st) o q q' v' z' r e k = (1, stops_one (machine j) m (printed_with m.out o) st e)

        by : (d e x : Result Done Stop) → effect j.t.word line (view_of j m) ≡ x → IsSameEffect e x → IsMade (PlaceIs j is f mine m.place) is_no_temporary v (view_of j m) (agrees j is f mine reach0 z0 base v m h) j.t.word ms flat.0 aims d e → Ahead b n (made d m.out go) m
        by d e x g a (stops s y) = tt
        by d e x g (both_do c y a) (gives i k (both_made o hh q q' p p' same r is_patch w)) =
            by_halt hh o q q' (view_after j.t.word ms p v) y.view r (turned_is (Ok y) g ∙ (λ i. ends j (sym a.halt i) (sym a.place i) y.view (printed_with m.out (sym a.output i))))
            (λ k t. next_is (view_after j.t.word ms p v) (mach_with j y.view k (printed_with m.out o)) q (held_same j is f mine reach0 z0 base (view_after j.t.word ms p v) (view_after j.t.word ms p' (view_of j m)) y.view k (printed_with m.out o) a.view (held_after j is f mine reach0 z0 base v m h ms flat small aims p p' same is_patch k (printed_with m.out o))) w t)

    -- and so a whole body
    pub body_ahead : (rest : List Transfer) (b : Bool) (n : ℕ) (tail : List Transfer) (next : ℕ) (v : View) (m : Mach) → BodyPlain j.t rest → Holds v m → Here j m.place (rest ++ tail) next
        → (go : View → List ℕ → Move State) → ((c : Bool) (v' : View) (m1 : Mach) → Holds v' m1 → Here j m1.place tail next → Ahead c n (go v' m1.out) m1) → Ahead b n (body_made j.t.word rest v m.out go) m
    body_ahead [] b n tail next v m flat h here go after = after b v m h here
    body_ahead (ms ∷ rest) b n tail next v m flat h here go after =
        transfer_ahead b n ms ms (rest ++ tail) next v m h (same_self (effect j.t.word ms (view_of j m))) flat.0 (body_aims j is f mine reach0 z0 base v m h ms flat.1) here (λ z o q. body_made j.t.word rest z o go)
        (λ v' m1 q k w r. body_ahead rest true n tail next v' m1 flat.2 k (subst (λ p. Here j p (rest ++ tail) next) (sym (on q w r)) (here_next j m.place ms (rest ++ tail) next here)) go after)
      where
        from_ok : Result (Option ℕ) Stop → Option ℕ
        from_ok (Ok x) = x
        from_ok (Err e) = None

        from_some : Option ℕ → ℕ
        from_some (Some x) = x
        from_some None = 0

        on : {p : ℕ} (q : Option ℕ) → went j.t.word (assigned ms Pc) v ≡ Ok q → PlaceIs j is f mine m.place q (Some p) → p ≡ suc m.place
        on {p} q w r =
            let none : None ≡ q = sym (h.plain Pc refl) ∙ ap from_ok (ap (λ o. went j.t.word o v) (sym (none_assigned ms flat.1)) ∙ w) in
            ap from_some (subst (λ x. PlaceIs j is f mine m.place x (Some p)) (sym none) r)
