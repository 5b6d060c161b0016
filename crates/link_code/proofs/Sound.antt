-- What a sound image and a sound machine owe is what linking asks.
use Rattle.std.proofs.Common.{◌≡◌, ℕ, zero, suc, ◌+◌, ◌-◌, ◌*◌, ◌<◌, ◌≤◌, ◌^◌, ◌==◌, Bool, true, false, cond, List, [], ◌∷◌, length, map, Option, Some, None, refl, sym, ◌∙◌, subst, arith}
use Rattle.std.specs.Prelude.{slice_index, Contains}
use Rattle.std.specs.List.{AllByRecursion}
use Rattle.std.proofs.lemmas.Bool.{eqb-true, eq-eqb}
use Rattle.std.proofs.lemmas.List.Elements.{recursion_from_All}
use Rattle.rtl_word.proofs.Below.{by_size}
use Rattle.temp_machine.specs.Routines.{BasicBlock, word_bytes, pushed_by}
use Rattle.temp_machine.specs.Machine.{first_byte, is_between}
use Rattle.link_code.proofs.Memory.{false_true, true_false}
use Rattle.link_code.specs.Linked.{Job, code, stands}
use Rattle.link_code.specs.Runs.{Stands, LinkFits, IsCode}
use Rattle.link_code.specs.Sound.{IsSoundJob, SoundIsLinkable}

index_below : (m : ℕ) (xs : List ℕ) (n : ℕ) → 0 < m → AllByRecursion (λ x. x < m) xs → slice_index xs n < m
index_below m [] n h a = h
index_below m (x ∷ xs) zero h a = a.0
index_below m (x ∷ xs) (suc n) h a = index_below m xs n h a.1

found_label : (bs : List BasicBlock) (l : ℕ) → stands bs l ≡ true → Contains (map (λ b. b.label) bs) l
found_label [] l e = false_true e
found_label (b ∷ bs) l e = by (λ h. found_label bs l h) (b.label == l) refl e
  where
    by : (stands bs l ≡ true → Contains (map (λ b. b.label) bs) l) → (x : Bool) → (b.label == l) ≡ x → cond x true (stands bs l) ≡ true → Contains (b.label ∷ map (λ b. b.label) bs) l
    by go true g h = (0, omega arith, eqb-true b.label l g)
    by go false g h = let r = go h in (suc r.0, (let n = r.1 in omega (arith, n)), r.2)

module _ (j : Job) (s : IsSoundJob j) where
  some_word : 0 < 2 ^ j.t.word
  some_word = by_size (λ n. 0 < 2 ^ n) (omega arith) (omega arith) j.t.word s.target.size

  data_is_bytes : (a n : ℕ) → first_byte j.t j.p a ≡ Some n → n < 256
  data_is_bytes a n e = by (is_between j.t.base (j.t.base + length j.p.bytes) a) e
    where
      by : (x : Bool) → cond x (Some (slice_index j.p.bytes (a - j.t.base))) None ≡ Some n → n < 256
      by true h = let i : slice_index j.p.bytes (a - j.t.base) ≡ n = cc in subst (λ (x : ℕ). x < 256) i (index_below 256 j.p.bytes (a - j.t.base) (omega arith) (recursion_from_All (λ b. b < 256) j.p.bytes s.image.bytes))
      by false h = absurd (let i : None ≡ Some n = h in cc)

  links : (o : Option ℕ) → j.t.link ≡ o → LinkFits o (pushed_by o (word_bytes j.t)) (word_bytes j.t) j.t.sp j.t.result
  links (Some z) e = (refl, (λ q. s.target.stack_is_no_link z e (sym q)), (λ q. s.target.result_is_no_link z e (sym q)))
  links None e = refl

  code_is : (f : ℕ) → Stands f j.order → IsCode j f
  code_is f r =
      let x = (s.image.routines f (s.there f r)).framed in
      let below : word_bytes j.t * 3 ≤ (code j f).first_home = subst (λ ks. word_bytes j.t * (3 + length ks) ≤ (code j f).first_home) s.none_kept x.below_homes in
      record {
        frame_words = x.frame_words;
        first_words = x.home_words;
        outgoing = omega (arith, below);
        homes_inside = x.fits;
        bodies = s.bodies f r;
        ends = s.ends f r;
      }

  apart : (f g l : ℕ) → Stands f j.order → Stands g j.order → stands (code j f).blocks l ≡ true → stands (code j g).blocks l ≡ true → f ≡ g
  apart f g l p q a b = by (f == g) refl
    where
      by : (x : Bool) → (f == g) ≡ x → f ≡ g
      by true e = eqb-true f g e
      by false e = absurd (s.image.labels f g l (λ i. true_false (sym (eq-eqb f g i) ∙ e)) (found_label (code j f).blocks l a) (found_label (code j g).blocks l b))

pub sound_is_linkable : SoundIsLinkable
sound_is_linkable j s = record {
  sized = s.target.size;
  memory_words = s.target.words;
  memory_small = s.target.memory;
  room = s.image.room;
  symbols = λ n. index_below (2 ^ j.t.word) j.p.symbols n (some_word j s) (recursion_from_All (λ a. a < 2 ^ j.t.word) j.p.symbols s.image.symbols);
  data_bytes = data_is_bytes j s;
  result_not_stack = λ e. s.target.stack_is_no_result (sym e);
  links = links j s j.t.link refl;
  none_kept = s.none_kept;
  glued = s.glued;
  main_stands = s.main_stands;
  codes = code_is j s;
  apart = apart j s;
  short = s.short;
}
