-- Entering a function, and leaving it.
use Rattle.std.proofs.Common.{◌≡◌, ℕ, suc, ◌+◌, ◌-◌, ◌%◌, ◌^◌, ◌<◌, ◌≤◌, List, [], ◌∷◌, Option, Some, None, refl, sym, ap, ◌∙◌, subst, arith, inl, inr}
use Rattle.std.specs.Prelude.{◌⊎◌}
use Rattle.behaviour.specs.Steps.{Leads}
use Rattle.behaviour.proofs.Stepping.{leads_one, leads_trans}
use Rattle.rtl_effect.specs.Views.{word_at}
use Rattle.temp_machine.specs.Routines.{word_bytes, pushed}
use Rattle.link_code.proofs.Memory.{word_same}
use Rattle.rtl_tree.specs.declared.cells.Lab.TheVariants.{Function}
use Rattle.link_code.specs.Linked.{Transfer, Job, code, entry, leave, minus, calling, function_place, block_place}
use Rattle.link_code.specs.Runs.{LinkFits, IsLinkable, IsCode, DoesAs}
use Rattle.link_code.proofs.Labels.{label_place}
use Rattle.link_code.proofs.Machine.{Mach, machine}
use Rattle.link_code.proofs.Places.{Here, here_next, here_last}
use Rattle.link_code.proofs.Wording.{Words, some_word}
use Rattle.link_code.proofs.Glue.{wb_some, by_wb, ret_off, Glued, up, down, stored, stored_other, stored_word, moves, pushes, saves, fetches, pops, links, returns}

module _ (j : Job) (is : IsLinkable j) where
  abbrev wb : ℕ
  wb = word_bytes j.t

  abbrev sp : ℕ
  sp = j.t.sp

  abbrev frame : ℕ → ℕ
  frame f = (code j f).frame

  abbrev pub low_of : ℕ → ℕ → ℕ
  low_of g base = base - ((code j g).frame + (pushed j.t))

  pub record Entered (o : Option ℕ) (g base back : ℕ) (m : Mach) : Type 0 where
    pub to : Mach
    pub leads : Leads (machine j) m to
    pub place : to.place ≡ block_place j g 0
    pub stack : to.regs j.t.sp ≡ Some (low_of g base)
    pub saved : word_at to.bytes (low_of g base + ret_off j.t o (code j g)) (word_bytes j.t) ≡ Some back
    pub bytes : (a : ℕ) → (a < low_of g base) ⊎ (base ≤ a) → to.bytes a ≡ m.bytes a
    pub input : to.input ≡ m.input
    pub out : to.out ≡ m.out
    pub words : Words j is to

  pub record Left (f base back : ℕ) (m : Mach) : Type 0 where
    pub to : Mach
    pub leads : Leads (machine j) m to
    pub place : to.place ≡ back
    pub stack : to.regs j.t.sp ≡ Some (base + (code j f).frame + (pushed j.t))
    pub result : to.regs j.t.result ≡ m.regs j.t.result
    pub bytes : (a : ℕ) → to.bytes a ≡ m.bytes a
    pub input : to.input ≡ m.input
    pub out : to.out ≡ m.out
    pub words : Words j is to

  one : (m : Mach) (q r : ℕ) (x : Option ℕ) (b : ℕ → Option ℕ) (g : Glued j is m q r x b) → Leads (machine j) m g.to
  one m q r x b g = leads_one (machine j) m g.to g.goes

  at_place : (p q : ℕ) (xs : List Transfer) (next : ℕ) → p ≡ q → Here j q xs next → Here j p xs next
  at_place p q xs next e h = subst (λ k. Here j k xs next) (sym e) h

  pub low_words : (a b : ℕ) → a % wb ≡ 0 → b % wb ≡ 0 → (a - b) % wb ≡ 0
  low_words a b h k = by_wb j is (λ x. a % x ≡ 0 → b % x ≡ 0 → (a - b) % x ≡ 0) (λ p q. omega (arith, p, q)) (λ p q. omega (arith, p, q)) h k

  pub sum_words : (a b : ℕ) → a % wb ≡ 0 → b % wb ≡ 0 → (a + b) % wb ≡ 0
  sum_words a b h k = by_wb j is (λ x. a % x ≡ 0 → b % x ≡ 0 → (a + b) % x ≡ 0) (λ p q. omega (arith, p, q)) (λ p q. omega (arith, p, q)) h k

  pub one_word : wb % wb ≡ 0
  one_word = by_wb j is (λ x. x % x ≡ 0) refl refl

  frame_word : (g : ℕ) → IsCode j g → minus j.t (frame g) < 2 ^ j.t.word
  frame_word g c = let a = wb_some j is in let b = c.outgoing in let h = c.homes_inside in let s = some_word j is in omega (arith, a, b, h, s)

  pub enters : (o : Option ℕ) → j.t.link ≡ o → LinkFits o (pushed j.t) wb sp j.t.result → (m : Mach) → Words j is m → (g base : ℕ) (xs : List Transfer) (next : ℕ) → m.regs sp ≡ Some base → base ≤ j.t.memory → base % wb ≡ 0
      → frame g + (pushed j.t) ≤ base → IsCode j g → suc m.place < 2 ^ j.t.word → (line : Transfer) → DoesAs j.t.word line (calling j.t j.t.link g) → Here j m.place (line ∷ xs) next → label_place j (Function g) ≡ function_place j g → Here j (function_place j g) (entry j.t j.glue o (code j g)) (block_place j g 0)
      → Entered o g base (suc m.place) m
  enters None same fits m wordy g base xs next stack inside aligned room c small line does here named there =
      let big = is.memory_small in
      let g1 = pushes j is m wordy base stack same g (base - wb) line does xs next here (down j is base wb (omega (arith, fits, room)) (omega (arith, inside, big))) (low_words base wb aligned one_word) (omega (arith, fits, room, inside)) in
      let here2 = at_place (g1.to.place) (function_place j g) _ _ (g1.place ∙ named) there in
      let g2 = moves j is g1.to g1.words (base - wb) g1.set (minus j.t (frame g)) (base - wb - frame g) (frame_word g c) [] _ here2 (down j is (base - wb) (frame g) (omega (arith, fits, room)) (omega (arith, inside, big))) in
      let all : (a : ℕ) → g2.to.bytes a ≡ stored j is (base - wb) (Some (suc m.place)) m.bytes a = (λ a. g2.bytes a ∙ g1.bytes a) in
      let at_word : low_of g base + frame g ≡ base - wb = omega (arith, fits, room) in
      record {
        to = g2.to;
        leads = leads_trans (machine j) m g1.to g2.to (one _ _ _ _ _ g1) (one _ _ _ _ _ g2);
        place = g2.place ∙ here_last j _ _ _ here2;
        stack = g2.set ∙ ap Some (omega (arith, fits, room));
        saved = word_same _ _ _ wb (λ b p q. all b) ∙ ap (λ a. word_at (stored j is (base - wb) (Some (suc m.place)) m.bytes) a wb) at_word ∙ stored_word j is (base - wb) (suc m.place) m.bytes small;
        bytes = λ a h. all a ∙ stored_other j is (base - wb) (Some (suc m.place)) m.bytes a (outside a h);
        input = g2.input ∙ g1.input;
        out = g2.out ∙ g1.out;
        words = g2.words;
      }
    where
      outside : (a : ℕ) → (a < low_of g base) ⊎ (base ≤ a) → (a < base - wb) ⊎ (base - wb + wb ≤ a)
      outside a (inl h) = inl (omega (arith, h, fits, room))
      outside a (inr h) = inr (omega (arith, h, fits, room))
  enters (Some z) same fits m wordy g base xs next stack inside aligned room c small line does here named there =
      let big = is.memory_small in
      let none = fits.0 in
      let first = c.outgoing in
      let homes = c.homes_inside in
      let k = (code j g).first_home - wb in
      let g1 = links j is m wordy z g same line does xs next here in
      let here2 = at_place (g1.to.place) (function_place j g) _ _ (g1.place ∙ named) there in
      let g2 = moves j is g1.to g1.words base (g1.kept sp (λ e. fits.1 (sym e)) ∙ stack) (minus j.t (frame g)) (base - frame g) (frame_word g c) _ _ here2 (down j is base (frame g) (omega (arith, room)) (omega (arith, inside, big))) in
      let here3 = at_place (g2.to.place) (suc g1.to.place) _ _ g2.place (here_next j _ _ _ _ here2) in
      let b = base - frame g + k in
      let g3 = saves j is g2.to g2.words (base - frame g) g2.set z k b (omega (arith, room, inside, big, first, homes)) same [] _ here3 (up j is (base - frame g) k (omega (arith, room, inside, big, first, homes)))
      (sum_words (base - frame g) k (low_words base (frame g) aligned c.frame_words) (low_words _ _ c.first_words one_word)) (omega (arith, room, inside, first, homes)) in
      let value : g2.to.regs z ≡ Some (suc m.place) = g2.kept z fits.1 ∙ g1.set in
      let all : (a : ℕ) → g3.to.bytes a ≡ stored j is b (Some (suc m.place)) m.bytes a =
      (λ a. g3.bytes a ∙ ap (λ x. stored j is b x g2.to.bytes a) value ∙ same_bytes b (suc m.place) g2.to.bytes m.bytes (λ i. g2.bytes i ∙ g1.bytes i) a) in
      let at_word : low_of g base + k ≡ b = omega (arith, none) in
      record {
        to = g3.to;
        leads = leads_trans (machine j) m g2.to g3.to (leads_trans (machine j) m g1.to g2.to (one _ _ _ _ _ g1) (one _ _ _ _ _ g2)) (one _ _ _ _ _ g3);
        place = g3.place ∙ here_last j _ _ _ here3;
        stack = g3.set ∙ g2.set ∙ ap Some (omega (arith, none));
        saved = word_same _ _ _ wb (λ b p q. all b) ∙ ap (λ a. word_at (stored j is b (Some (suc m.place)) m.bytes) a wb) at_word ∙ stored_word j is b (suc m.place) m.bytes small;
        bytes = λ a h. all a ∙ stored_other j is b (Some (suc m.place)) m.bytes a (outside a h);
        input = g3.input ∙ g2.input ∙ g1.input;
        out = g3.out ∙ g2.out ∙ g1.out;
        words = g3.words;
      }
    where
      outside : (a : ℕ) → (a < low_of g base) ⊎ (base ≤ a) → (a < base - frame g + ((code j g).first_home - wb)) ⊎ (base - frame g + ((code j g).first_home - wb) + wb ≤ a)
      outside a (inl h) = inl (let n = fits.0 in omega (arith, h, n, room))
      outside a (inr h) = inr (let n = fits.0 in let f = c.outgoing in let e = c.homes_inside in omega (arith, h, n, f, e, room))

      same_bytes : (b x : ℕ) (p q : ℕ → Option ℕ) → ((i : ℕ) → p i ≡ q i) → (a : ℕ) → stored j is b (Some x) p a ≡ stored j is b (Some x) q a
      same_bytes b x p q h a = λ i. stored j is b (Some x) (λ n. h n i) a

  pub leaves : (o : Option ℕ) → j.t.link ≡ o → LinkFits o (pushed j.t) wb sp j.t.result → (m : Mach) → Words j is m → (f base back : ℕ) (next : ℕ) → m.regs sp ≡ Some base → base % wb ≡ 0
      → base + frame f + (pushed j.t) ≤ j.t.memory → IsCode j f → word_at m.bytes (base + ret_off j.t o (code j f)) wb ≡ Some back → Here j m.place (leave j.t j.glue o (code j f)) next → Left f base back m
  leaves None same fits m wordy f base back next stack aligned inside c saved here =
      let big = is.memory_small in
      let g1 = moves j is m wordy base stack (frame f) (base + frame f) (omega (arith, inside, big)) _ next here (up j is base (frame f) (omega (arith, inside, big))) in
      let here2 = at_place (g1.to.place) (suc m.place) _ _ g1.place (here_next j _ _ _ _ here) in
      let g2 = pops j is g1.to g1.words (base + frame f) g1.set same (base + frame f + wb) back [] _ here2 (up j is (base + frame f) wb (omega (arith, inside, fits, big))) (sum_words base (frame f) aligned c.frame_words) (omega (arith, inside, fits))
      (word_same _ _ _ wb (λ b p q. g1.bytes b) ∙ saved) in
      record {
        to = g2.to;
        leads = leads_trans (machine j) m g1.to g2.to (one _ _ _ _ _ g1) (one _ _ _ _ _ g2);
        place = g2.place;
        stack = g2.set ∙ ap Some (omega (arith, fits));
        result = g2.kept j.t.result is.result_not_stack ∙ g1.kept j.t.result is.result_not_stack;
        bytes = λ a. g2.bytes a ∙ g1.bytes a;
        input = g2.input ∙ g1.input;
        out = g2.out ∙ g1.out;
        words = g2.words;
      }
  leaves (Some z) same fits m wordy f base back next stack aligned inside c saved here =
      let big = is.memory_small in
      let none = fits.0 in
      let first = c.outgoing in
      let homes = c.homes_inside in
      let k = (code j f).first_home - wb in
      let g1 = fetches j is m wordy base stack z k (base + k) (Some back) (omega (arith, inside, big, first, homes)) same _ next here (up j is base k (omega (arith, inside, big, first, homes)))
      (sum_words base k aligned (low_words _ _ c.first_words one_word)) (omega (arith, inside, first, homes)) saved in
      let here2 = at_place (g1.to.place) (suc m.place) _ _ g1.place (here_next j _ _ _ _ here) in
      let g2 = moves j is g1.to g1.words base (g1.kept sp (λ e. fits.1 (sym e)) ∙ stack) (frame f) (base + frame f) (omega (arith, inside, big)) _ _ here2 (up j is base (frame f) (omega (arith, inside, big))) in
      let here3 = at_place (g2.to.place) (suc g1.to.place) _ _ g2.place (here_next j _ _ _ _ here2) in
      let g3 = returns j is g2.to g2.words z back same [] _ here3 (g2.kept z fits.1 ∙ g1.set) in
      record {
        to = g3.to;
        leads = leads_trans (machine j) m g2.to g3.to (leads_trans (machine j) m g1.to g2.to (one _ _ _ _ _ g1) (one _ _ _ _ _ g2)) (one _ _ _ _ _ g3);
        place = g3.place;
        stack = g3.set ∙ g2.set ∙ ap Some (omega (arith, none));
        result = g3.kept j.t.result is.result_not_stack ∙ g2.kept j.t.result is.result_not_stack ∙ g1.kept j.t.result (λ e. fits.2 (sym e));
        bytes = λ a. g3.bytes a ∙ g2.bytes a ∙ g1.bytes a;
        input = g3.input ∙ g2.input ∙ g1.input;
        out = g3.out ∙ g2.out ∙ g1.out;
        words = g3.words;
      }
