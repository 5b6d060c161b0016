-- The example meets the premises of the law, and ends as it says.
use Rattle.std.proofs.Common.{◌≡◌, ℕ, zero, suc, ◌<◌, ◌≤◌, Bool, true, false, cond, ◌==◌, [], ◌∷◌, length, Option, Some, None, refl, sym, subst, arith, inl, inr}
use Rattle.std.specs.Prelude.{nat_le, nat_lt, ◌&&◌, slice_get}
use Rattle.std.proofs.lemmas.Bool.{eqb-true, ltb-true}
use Rattle.std.proofs.lemmas.List.Elements.{All-from_recursion}
use Rattle.rtl_tree.specs.Trees.{Number, CodeLabel, Read, Binary}
use Rattle.rtl_tree.specs.declared.cells.Cell.TheVariants.{Hard, Pc}
use Rattle.rtl_tree.specs.declared.cells.Lab.TheVariants.{Block}
use Rattle.rtl_tree.specs.declared.expressions.BinOp.TheVariants.{Cmp, When}
use Rattle.rtl_tree.specs.WellFormed.{IsPlaced, IsWellFormed}
use Rattle.rtl_word.specs.declared.Rel.TheVariants.{Eq}
use Rattle.rtl_norm.specs.Transfers.{IsMoveFitting}
use Rattle.rtl_norm.specs.Normal.{finish, step}
use Rattle.rtl_norm.specs.Rules.{fold_rule, swap_rule, mirror_rule, minus_rule, negate_rule, join_rule, neutral_rule, twice_rule, extend_rule, cut_rule, byte_rule, pair_rule, when_rule}
use Rattle.rtl_norm_value.specs.Effect.{with_normal_jump, IsMoveFilled}
use Rattle.temp_machine.specs.Routines.{BasicBlock, pushed}
use Rattle.temp_machine.specs.Machine.{callee_of}
use Rattle.link_code.proofs.Memory.{false_true}
use Rattle.link_code.specs.Linked.{Transfer, Job, code, stands, program, calling}
use Rattle.link_code.specs.Runs.{Stands, LinkFits, IsPlain, JumpsOwn, BodyPlain, JumpPlain, CallPlain, EndPlain, DoesAs, IsGlue, IsCode, IsLinkable}
use Rattle.link_code.specs.Example.{target, main_blocks, f_blocks, routines, job, glue, one, PremisesAreMet, AllEndAlike, LabelsHaveToDiffer}

alike : (w : ℕ) (ms : Transfer) → DoesAs w ms ms
alike w ms z d words places e = (d, e, record { regs = λ n. refl; bytes = λ a. refl; input = refl; place = refl; output = refl; halt = refl })

stands_case : (f : ℕ) (P : ℕ → Type 0) → P 0 → P 1 → Stands f (0 ∷ 1 ∷ []) → P f
stands_case f P a b (inl e) = subst P e a
stands_case f P a b (inr (inl e)) = subst P e b
stands_case f P a b (inr (inr e)) = absurd e

abbrev branch : Transfer
branch = one Pc (Binary When (Binary (Cmp Eq) (Read (Hard 1)) (Number 0)) (CodeLabel (Block 5)))

placed : IsPlaced (record { to = Rattle.rtl_tree.specs.Moves.ToCell Pc; value = Binary When (Binary (Cmp Eq) (Read (Hard 1)) (Number 0)) (CodeLabel (Block 5)) })
placed = record { shallow = refl; flags = refl; tests = refl; jumps = refl; input = refl; output = refl }

normal : with_normal_jump 16 branch ≡ branch
unfolding finish step fold_rule swap_rule mirror_rule minus_rule negate_rule join_rule neutral_rule twice_rule extend_rule cut_rule byte_rule pair_rule when_rule
normal = refl

formed : IsWellFormed branch
formed = record {
  nonempty = omega arith;
  short = omega arith;
  placed = All-from_recursion IsPlaced branch (placed, tt);
  once = λ i j d less lt. absurd (omega (arith, less, lt));
  one_store = omega arith;
}

module _ (link : Option ℕ) (small : pushed (target link) < 3) (calls : callee_of 16 (calling (target link) link 1) ≡ Some 1) where
  abbrev j : Job
  j = job link (routines link)

  main_low : (l : ℕ) → stands (main_blocks link) l ≡ true → l < 2
  main_low l e = by (0 == l) (1 == l) refl refl e
    where
      by : (a b : Bool) → (0 == l) ≡ a → (1 == l) ≡ b → cond a true (cond b true false) ≡ true → l < 2
      by true b g h k = let i : 0 ≡ l = eqb-true 0 l g in omega (arith, i)
      by false true g h k = let i : 1 ≡ l = eqb-true 1 l h in omega (arith, i)
      by false false g h k = false_true k

  f_high : (l : ℕ) → stands (f_blocks link) l ≡ true → 2 ≤ l
  f_high l e = by (2 == l) (3 == l) (4 == l) (5 == l) refl refl refl refl e
    where
      by : (a b c d : Bool) → (2 == l) ≡ a → (3 == l) ≡ b → (4 == l) ≡ c → (5 == l) ≡ d → cond a true (cond b true (cond c true (cond d true false))) ≡ true → 2 ≤ l
      by true b c d g h i m k = let n : 2 ≡ l = eqb-true 2 l g in omega (arith, n)
      by false true c d g h i m k = let n : 3 ≡ l = eqb-true 3 l h in omega (arith, n)
      by false false true d g h i m k = let n : 4 ≡ l = eqb-true 4 l i in omega (arith, n)
      by false false false true g h i m k = let n : 5 ≡ l = eqb-true 5 l m in omega (arith, n)
      by false false false false g h i m k = false_true k

  call_plain : (f : ℕ) → 4 ≤ (code j f).first_home → CallPlain j f (calling (target link) link 1)
  call_plain f h = record { callee = 1; calls = calls; there = inr (inl refl); arguments = h; does = alike 16 (calling (target link) link 1) }

  jump_plain : JumpPlain (target link) (f_blocks link) branch
  jump_plain = record {
    plain = subst (IsPlain (target link)) (sym normal) ((((refl, tt), tt), tt, tt), refl, ((tt, ((tt, omega arith), tt)), tt));
    own = subst (JumpsOwn (f_blocks link)) (sym normal) (refl, tt);
    formed = formed;
    fits = All-from_recursion (IsMoveFitting 16) branch ((tt, ((tt, omega arith), tt)), tt);
    filled = All-from_recursion IsMoveFilled branch ((tt, ((tt, tt), tt)), tt);
  }

  from : (A : BasicBlock → Type 0) (x b : BasicBlock) → Some x ≡ Some b → A x → A b
  from A x b e h = let i : x ≡ b = cc in subst A i h

  main_bodies : (i : ℕ) (b : BasicBlock) → slice_get (main_blocks link) i ≡ Some b → BodyPlain (target link) b.body × EndPlain j 0 b.exit
  main_bodies zero b e =
      from (λ b. BodyPlain (target link) b.body × EndPlain j 0 b.exit) _ b e
      ((((tt, tt, tt), refl, ((tt, omega arith), tt)), (tt, tt), (((refl, refl, tt), refl, ((tt, tt), tt)), (tt, tt), tt)), call_plain 0 (omega arith))
  main_bodies (suc zero) b e = from (λ b. BodyPlain (target link) b.body × EndPlain j 0 b.exit) _ b e ((((refl, tt, tt), refl, ((tt, tt), tt)), (tt, tt), tt), tt)
  main_bodies (suc (suc i)) b e = absurd (let k : None ≡ Some b = e in cc)

  f_bodies : (i : ℕ) (b : BasicBlock) → slice_get (f_blocks link) i ≡ Some b → BodyPlain (target link) b.body × EndPlain j 1 b.exit
  f_bodies zero b e =
      from (λ b. BodyPlain (target link) b.body × EndPlain j 1 b.exit) _ b e
      (((((refl, tt), tt, tt), refl, ((tt, (tt, omega (arith, small))), tt)), (tt, tt), ((((refl, tt), tt, tt), refl, ((tt, (tt, omega arith)), tt)), (tt, tt), tt)), jump_plain)
  f_bodies (suc zero) b e = from (λ b. BodyPlain (target link) b.body × EndPlain j 1 b.exit) _ b e ((((refl, refl, tt), refl, ((tt, tt), tt)), (tt, tt), tt), call_plain 1 (omega arith))
  f_bodies (suc (suc zero)) b e = from (λ b. BodyPlain (target link) b.body × EndPlain j 1 b.exit) _ b e (((((refl, tt), tt, tt), refl, ((tt, (tt, omega arith)), tt)), (tt, tt), tt), tt)
  f_bodies (suc (suc (suc zero))) b e = from (λ b. BodyPlain (target link) b.body × EndPlain j 1 b.exit) _ b e ((((tt, tt, tt), refl, ((tt, omega arith), tt)), (tt, tt), tt), tt)
  f_bodies (suc (suc (suc (suc i)))) b e = absurd (let k : None ≡ Some b = e in cc)

  main_code : IsCode j 0
  main_code = record { frame_words = refl; first_words = refl; outgoing = omega arith; homes_inside = omega arith; bodies = λ i b e. (main_bodies i b e).0; ends = λ i b e. (main_bodies i b e).1 }

  f_code : IsCode j 1
  f_code = record { frame_words = refl; first_words = refl; outgoing = omega arith; homes_inside = omega arith; bodies = λ i b e. (f_bodies i b e).0; ends = λ i b e. (f_bodies i b e).1 }

  never_both : (l : ℕ) → stands (main_blocks link) l ≡ true → stands (f_blocks link) l ≡ true → ⊥
  never_both l a b = let p = main_low l a in let q = f_high l b in omega (arith, p, q)

  apart : (f g l : ℕ) → Stands f (0 ∷ 1 ∷ []) → Stands g (0 ∷ 1 ∷ []) → stands (code j f).blocks l ≡ true → stands (code j g).blocks l ≡ true → f ≡ g
  apart f g l s r =
      stands_case f (λ f. stands (code j f).blocks l ≡ true → stands (code j g).blocks l ≡ true → f ≡ g)
      (stands_case g (λ g. stands (code j 0).blocks l ≡ true → stands (code j g).blocks l ≡ true → 0 ≡ g) (λ a b. refl) (λ a b. absurd (never_both l a b)) r)
      (stands_case g (λ g. stands (code j 1).blocks l ≡ true → stands (code j g).blocks l ≡ true → 1 ≡ g) (λ a b. absurd (never_both l b a)) (λ a b. refl) r) s

  premises : LinkFits link (pushed (target link)) 2 6 0 → IsGlue (target link) link (glue (target link) link) → length (program j) < 65536 → ((a n : ℕ) → Rattle.temp_machine.specs.Machine.first_byte (target link) j.p a ≡ Some n → n < 256) → IsLinkable j
  premises fits glued short bytes = record {
    sized = inl refl;
    memory_words = refl;
    memory_small = omega arith;
    room = omega arith;
    symbols = λ n. omega arith;
    data_bytes = bytes;
    result_not_stack = λ e. omega (arith, e);
    links = fits;
    none_kept = refl;
    glued = glued;
    main_stands = inl refl;
    codes = λ f s. stands_case f (λ f. IsCode j f) main_code f_code s;
    apart = apart;
    short = short;
  }

glued_link : IsGlue (target (Some 5)) (Some 5) (glue (target (Some 5)) (Some 5))
glued_link = record {
  set_stack = alike 16 ((glue (target (Some 5)) (Some 5)).set_stack);
  move_stack = λ n. alike 16 ((glue (target (Some 5)) (Some 5)).move_stack n);
  calling = λ f. alike 16 ((glue (target (Some 5)) (Some 5)).calling f);
  going_back = alike 16 ((glue (target (Some 5)) (Some 5)).going_back);
  save = λ z k e. (let i : 5 ≡ z = cc in subst (λ y. DoesAs 16 (Rattle.link_code.specs.Linked.save (target (Some 5)) 5 k) (Rattle.link_code.specs.Linked.save (target (Some 5)) y k)) i (alike 16 (Rattle.link_code.specs.Linked.save (target (Some 5)) 5 k)));
  fetch = λ z k e. (let i : 5 ≡ z = cc in subst (λ y. DoesAs 16 (Rattle.link_code.specs.Linked.fetch (target (Some 5)) 5 k) (Rattle.link_code.specs.Linked.fetch (target (Some 5)) y k)) i (alike 16 (Rattle.link_code.specs.Linked.fetch (target (Some 5)) 5 k)));
  finish = alike 16 ((glue (target (Some 5)) (Some 5)).finish);
}

glued_pushed : IsGlue (target None) None (glue (target None) None)
glued_pushed = record {
  set_stack = alike 16 ((glue (target None) None).set_stack);
  move_stack = λ n. alike 16 ((glue (target None) None).move_stack n);
  calling = λ f. alike 16 ((glue (target None) None).calling f);
  going_back = alike 16 ((glue (target None) None).going_back);
  save = λ z k e. absurd (let i : None ≡ Some z = e in cc);
  fetch = λ z k e. absurd (let i : None ≡ Some z = e in cc);
  finish = alike 16 ((glue (target None) None).finish);
}

-- there is no data
no_data : (link : Option ℕ) (a n : ℕ) → Rattle.temp_machine.specs.Machine.first_byte (target link) (job link (routines link)).p a ≡ Some n → n < 256
no_data link a n e = by (nat_lt a 0) refl e
  where
    by : (x : Bool) → nat_lt a 0 ≡ x → cond (nat_le 0 a && x) (Some 0) None ≡ Some n → n < 256
    by true g h = let l : a < 0 = ltb-true a 0 g in absurd (omega (arith, l))
    by false g h = none (nat_le 0 a) h
      where
        none : (y : Bool) → cond (y && false) (Some 0) None ≡ Some n → n < 256
        none true h = absurd (let i : None ≡ Some n = h in cc)
        none false h = absurd (let i : None ≡ Some n = h in cc)

pub premises_are_met : PremisesAreMet
premises_are_met = record {
  with_link_register = premises (Some 5) (omega arith) refl (refl, (λ e. omega (arith, e)), (λ e. omega (arith, e))) glued_link (omega arith) (no_data (Some 5));
  with_pushed_places = premises None (omega arith) refl refl glued_pushed (omega arith) (no_data None);
}

pub all_end_alike : AllEndAlike
unfolding finish step fold_rule swap_rule mirror_rule minus_rule negate_rule join_rule neutral_rule twice_rule extend_rule cut_rule byte_rule pair_rule when_rule
all_end_alike = record { routines_end = refl; with_link_register = refl; with_pushed_places = refl }

pub labels_have_to_differ : LabelsHaveToDiffer
labels_have_to_differ = record { routines_end = refl; linked_ends = refl }
