-- Loads and stores, one after the other.
use Rattle.std.proofs.Common.{◌≡◌, ◌≢◌, ℕ, ◌==◌, ◌||◌, Bool, true, false, List, [], ◌∷◌, slice_index, Some, refl, sym, ap, ◌∙◌, subst}
use Rattle.std.proofs.lemmas.Bool.{eqb-true}
use Rattle.rtl_tree.specs.declared.cells.Cell.TheVariants.{Hard}
use Rattle.rtl_tree.specs.Moves.{Move}
use Rattle.rtl_effect.specs.Views.{View, word_at}
use Rattle.rtl_effect.specs.Effects.{Done}
use Rattle.temp_machine.specs.Routines.{Routine, Target, word_bytes}
use Rattle.temp_machine.specs.Tidy.{is_among}
use Rattle.color_spilling.specs.Spilling.{AreLoads, no_load, a_load, AreStores, no_store, a_store}
use Rattle.color_spilling.specs.Passing.{Passes, over, more, Stays, IsPlaced, home_address, IsReady, IsLoaded, IsStored, HaveHomes, LoadsPass, StoresPass}
use Rattle.color_spilling.proofs.Memory.{false_true, true_false, word_same}
use Rattle.color_spilling.proofs.Steps.{among_here, homes_apart, one_load, one_store}

by_bool : {A : Type 0} (b : Bool) → (b ≡ true → A) → (b ≡ false → A) → A
by_bool true f g = f refl
by_bool false f g = g refl

-- a number of a longer list is its first, or one of the rest
is_first : (k j : ℕ) (ks : List ℕ) → is_among j (k ∷ ks) ≡ true → is_among j ks ≡ false → k ≡ j
is_first k j ks e f = eqb-true k j (by (k == j) (is_among j ks) e f)
  where
    by : (b c : Bool) → (b || c) ≡ true → c ≡ false → b ≡ true
    by true c g h = refl
    by false c g h = true_false (sym g ∙ h)

among_behind : (k j : ℕ) (ks : List ℕ) → is_among j ks ≡ true → is_among j (k ∷ ks) ≡ true
among_behind k j ks e = by (k == j) (is_among j ks) e
  where
    by : (b c : Bool) → c ≡ true → (b || c) ≡ true
    by true c g = refl
    by false c g = g

among_front : (k j : ℕ) (ks : List ℕ) → is_among j (k ∷ []) ≡ true → is_among j (k ∷ ks) ≡ true
among_front k j ks e = by (k == j) e
  where
    by : (b : Bool) → (b || false) ≡ true → (b || is_among j ks) ≡ true
    by true g = refl
    by false g = false_true g

stays_self : (z : View) → Stays z z
stays_self z = record { size = refl; reach = λ a. refl; symbols = λ n. refl; labels = λ l. refl; targets = λ l. refl; places = λ n. refl; counter = refl; input = refl }

stays_then : (z y x : View) → Stays z y → Stays y x → Stays z x
stays_then z y x p q = record {
  size = q.size ∙ p.size;
  reach = λ a. q.reach a ∙ p.reach a;
  symbols = λ n. q.symbols n ∙ p.symbols n;
  labels = λ l. q.labels l ∙ p.labels l;
  targets = λ l. q.targets l ∙ p.targets l;
  places = λ n. q.places n ∙ p.places n;
  counter = q.counter ∙ p.counter;
  input = q.input ∙ p.input;
}

module _ (t : Target) (r : Routine) (base : ℕ) (register : ℕ → ℕ) where
  none_loaded : (z : View) → IsLoaded t r base register [] z z
  none_loaded z = record { got = λ k h. false_true h; others = λ n h. refl; temps = λ n. refl; bytes = λ a. refl; stays = stays_self z }

  loaded_then : (k : ℕ) (ks : List ℕ) (z y x : View) → ((i j : ℕ) → is_among i (k ∷ ks) ≡ true → is_among j (k ∷ ks) ≡ true → i ≢ j → register i ≢ register j)
      → IsLoaded t r base register (k ∷ []) z y → IsLoaded t r base register ks y x → IsLoaded t r base register (k ∷ ks) z x
  loaded_then k ks z y x apart p q = record {
    got = λ j h. by_bool (is_among j ks) (later j) (λ f. subst (λ i. is_among i ks ≡ false → x.cells (Hard (register i)) ≡ word_at z.bytes (home_address t r base i) (word_bytes t)) (is_first k j ks h f) first f);
    others = λ n h. q.others n (λ j e. h j (among_behind k j ks e)) ∙ p.others n (λ j e. h j (among_front k j ks e));
    temps = λ n. q.temps n ∙ p.temps n;
    bytes = λ a. q.bytes a ∙ p.bytes a;
    stays = stays_then z y x p.stays q.stays;
  }
    where
      later : (j : ℕ) → is_among j ks ≡ true → x.cells (Hard (register j)) ≡ word_at z.bytes (home_address t r base j) (word_bytes t)
      later j e = q.got j e ∙ word_same y.bytes z.bytes (home_address t r base j) (word_bytes t) (λ b l h. p.bytes b)

      first : is_among k ks ≡ false → x.cells (Hard (register k)) ≡ word_at z.bytes (home_address t r base k) (word_bytes t)
      first f =
          q.others (register k) (λ j e. apart j k (among_behind k j ks e) (among_here k ks) (λ g. true_false (sym e ∙ ap (λ i. is_among i ks) g ∙ f)))
          ∙ p.got k (among_here k [])

  none_stored : (z : View) → IsStored t r base register [] z z
  none_stored z = record { got = λ k n h. false_true h; registers = λ n. refl; temps = λ n. refl; elsewhere = λ a h. refl; stays = stays_self z }

  module _ (placed : IsPlaced t r base) where
    pub loads_made : (ks : List ℕ) (code : List (List Move)) (z : View) → HaveHomes r ks → AreLoads t r register ks code
        → ((i j : ℕ) → is_among i ks ≡ true → is_among j ks ≡ true → i ≢ j → register i ≢ register j) → ((k : ℕ) → is_among k ks ≡ true → register k ≢ t.sp)
        → IsReady t r base z → (x : View) × Passes t.word code z x × IsLoaded t r base register ks z x × IsReady t r base x
    loads_made _ _ z homes no_load apart low ready = (z, over z, none_loaded z, ready)
    loads_made _ _ z homes (a_load k ks ms rest does loads) apart low ready =
        let one = one_load t r base placed k (homes k (among_here k ks)) z ready register ms (low k (among_here k ks)) does in
        let e : Done = one.0 in
        let further = loads_made ks rest e.view (λ j h. homes j (among_behind k j ks h)) loads (λ i j h g. apart i j (among_behind k i ks h) (among_behind k j ks g)) (λ j h. low j (among_behind k j ks h)) one.5 in
        (further.0, more ms rest z further.0 e one.1 one.2 one.3 further.1, loaded_then k ks z e.view further.0 apart one.4 further.2, further.3)

    stored_then : (k : ℕ) (ks : List ℕ) (z y x : View) → ((i j : ℕ) → is_among i (k ∷ ks) ≡ true → is_among j (k ∷ ks) ≡ true → i ≢ j → slice_index r.homes i ≢ slice_index r.homes j)
        → IsStored t r base register (k ∷ []) z y → IsStored t r base register ks y x → IsStored t r base register (k ∷ ks) z x
    stored_then k ks z y x apart p q = record {
      got = λ j n h. by_bool (is_among j ks) (later j n) (λ f. subst (λ i. is_among i ks ≡ false → z.cells (Hard (register i)) ≡ Some n → word_at x.bytes (home_address t r base i) (word_bytes t) ≡ Some n) (is_first k j ks h f) (first n) f);
      registers = λ n. q.registers n ∙ p.registers n;
      temps = λ n. q.temps n ∙ p.temps n;
      elsewhere = λ b h. q.elsewhere b (λ j e. h j (among_behind k j ks e)) ∙ p.elsewhere b (λ j e. h j (among_front k j ks e));
      stays = stays_then z y x p.stays q.stays;
    }
      where
        later : (j n : ℕ) → is_among j ks ≡ true → z.cells (Hard (register j)) ≡ Some n → word_at x.bytes (home_address t r base j) (word_bytes t) ≡ Some n
        later j n e f = q.got j n e (p.registers (register j) ∙ f)

        first : (n : ℕ) → is_among k ks ≡ false → z.cells (Hard (register k)) ≡ Some n → word_at x.bytes (home_address t r base k) (word_bytes t) ≡ Some n
        first n f g =
            word_same x.bytes y.bytes (home_address t r base k) (word_bytes t)
            (λ b l h. q.elsewhere b (λ j e. homes_apart t r base placed j k b (apart j k (among_behind k j ks e) (among_here k ks) (λ s. true_false (sym e ∙ ap (λ i. is_among i ks) s ∙ f))) l h))
            ∙ p.got k n (among_here k []) g

    pub stores_made : (ks : List ℕ) (code : List (List Move)) (z : View) → HaveHomes r ks → AreStores t r register ks code
        → ((i j : ℕ) → is_among i ks ≡ true → is_among j ks ≡ true → i ≢ j → slice_index r.homes i ≢ slice_index r.homes j)
        → IsReady t r base z → (x : View) × Passes t.word code z x × IsStored t r base register ks z x × IsReady t r base x
    stores_made _ _ z homes no_store apart ready = (z, over z, none_stored z, ready)
    stores_made _ _ z homes (a_store k ks ms rest does stores) apart ready =
        let one = one_store t r base placed k (homes k (among_here k ks)) z ready register ms does in
        let e : Done = one.0 in
        let further = stores_made ks rest e.view (λ j h. homes j (among_behind k j ks h)) stores (λ i j h g. apart i j (among_behind k i ks h) (among_behind k j ks g)) one.5 in
        (further.0, more ms rest z further.0 e one.1 one.2 one.3 further.1, stored_then k ks z e.view further.0 apart one.4 further.2, further.3)

pub loads_pass : LoadsPass
loads_pass t r base register ks code z placed homes loads apart low ready = loads_made t r base register placed ks code z homes loads apart low ready

pub stores_pass : StoresPass
stores_pass t r base register ks code z placed homes stores apart ready = stores_made t r base register placed ks code z homes stores apart ready
