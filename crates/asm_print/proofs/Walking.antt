-- Lines that keep the rules.
use Rattle.std.proofs.Common.{◌≡◌, ◌≢◌, ℕ, suc, ◌+◌, ◌<◌, ◌≤◌, Bool, true, false, cond, List, [], ◌∷◌, ◌++◌, length, Option, Some, None, refl, sym, ap, subst, ◌∙◌, arith, append_assoc, length-append}
use Rattle.std.specs.List.{AllByRecursion, IsDistinct}
use Rattle.std.proofs.lemmas.Bool.{eqb-true, eq-eqb}
use Rattle.std.proofs.lemmas.Slice.Eq.{bytes_eq-Decides}
use Rattle.asm_token.specs.Tokens.{Token}
use Rattle.md_rows.specs.declared.description.RawDescription.{RawDescription}
use Rattle.asm_program.specs.declared.places.Part.{Part}
use Rattle.asm_program.specs.declared.places.Part.TheVariants.{Outside, InText, InData}
use Rattle.asm_program.specs.declared.places.Place.{Place}
use Rattle.asm_program.specs.TextLines.{Label, Block, Symbol, Said, Unreadable, Labelled, Word, Byte, Space, Others}
use Rattle.asm_program.specs.Places.{Position, after, part_after, count_after, reach_in, reach_after, same_label, is_label_line, first_from, first_place, symbols_on}
use Rattle.asm_program.specs.Rules.{IsWithin, IsMade, StandsAt, StandsIn, Walks, word_bytes, instruction_in, is_dotted}
use Rattle.asm_print.proofs.Weaving.{AreInPlace, Each, counts, reaches, parts, labels_on}
use Rattle.asm_print.proofs.Names.{names_after, all_more_names}

-- labels that are the same

pub same_decides : (k l : Label) → same_label k l ≡ true → k ≡ l
same_decides (Block a) (Block b) e = ap Block (eqb-true a b e)
same_decides (Symbol a) (Symbol b) e = ap Symbol ((bytes_eq-Decides a b).0 e)
same_decides (Block a) (Symbol b) e = absurd (let q : false ≡ true = e in cc)
same_decides (Symbol a) (Block b) e = absurd (let q : false ≡ true = e in cc)

pub itself : (l : Label) → same_label l l ≡ true
itself (Block b) = eq-eqb b b refl
itself (Symbol s) = (bytes_eq-Decides s s).1 refl

-- labels that differ

abbrev pub Apart : Said → Said → Type 0
Apart (Labelled k) (Labelled l) = same_label k l ≡ false
Apart (Labelled k) _ = Unit {0}
Apart _ _ = Unit {0}

abbrev pub LabelsDiffer : List Said → Type 0
LabelsDiffer [] = Unit {0}
LabelsDiffer (s ∷ ss) = Each (Apart s) ss × LabelsDiffer ss

apart_from : (l : Label) (ss : List Said) → AllByRecursion (λ k. same_label l k ≡ false) (labels_on ss) → Each (Apart (Labelled l)) ss
apart_from l [] h = tt
apart_from l (Labelled k ∷ ss) h = (h.0, apart_from l ss h.1)
apart_from l (s ∷ ss) h = (tt, apart_from l ss h)

each_any : (P : Said → Type 0) → ((s : Said) → P s) → (ss : List Said) → Each P ss
each_any P f [] = tt
each_any P f (s ∷ ss) = (f s, each_any P f ss)

pub differ_by : (ss : List Said) → IsDistinct same_label (labels_on ss) → LabelsDiffer ss
unfolding IsDistinct
differ_by [] h = tt
differ_by (Labelled l ∷ ss) h = (apart_from l ss h.0, differ_by ss h.1)
differ_by (s ∷ ss) h = (each_any (Apart s) (λ t. tt) ss, differ_by ss h)

one_apart : (s : Said) (l : Label) → Apart s (Labelled l) → is_label_line l s ≡ false
one_apart (Labelled k) l h = h
one_apart s l h = refl

at_middle : (P : Said → Type 0) (before : List Said) (s : Said) (behind : List Said) → Each P (before ++ s ∷ behind) → P s
at_middle P [] s behind h = h.0
at_middle P (x ∷ before) s behind h = at_middle P before s behind h.1

none_before : (before : List Said) (l : Label) (behind : List Said) → LabelsDiffer (before ++ Labelled l ∷ behind) → Each (λ s. is_label_line l s ≡ false) before
none_before [] l behind h = tt
none_before (x ∷ before) l behind h = (one_apart x l (at_middle (Apart x) before (Labelled l) behind h.0), none_before before l behind h.1)

first_by : (b : Bool) (p : Place) (o : Option Place) → b ≡ true → cond b (Some p) o ≡ Some p
first_by true p o e = refl
first_by false p o e = absurd (let q : false ≡ true = e in cc)

later_by : (b : Bool) (p : Place) (o r : Option Place) → b ≡ false → o ≡ r → cond b (Some p) o ≡ r
later_by true p o r n e = absurd (let q : true ≡ false = n in cc)
later_by false p o r n e = e

first_at : (k : ℕ) (part : Part) (before : List Said) (l : Label) (behind : List Said) → Each (λ s. is_label_line l s ≡ false) before
    → first_from k part l (before ++ Labelled l ∷ behind) ≡ Some (record { line = k + length before; part = parts part before })
first_at k part [] l behind h =
    first_by (same_label l l) (record { line = k; part = part }) (first_from (suc k) (part_after part (Labelled l)) l behind) (itself l)
    ∙ ap (λ (n : ℕ). Some (record { line = n; part = part })) (let e : k ≡ k + 0 = omega arith in e)
first_at k part (x ∷ before) l behind h =
    later_by (is_label_line l x) (record { line = k; part = part }) (first_from (suc k) (part_after part x) l (before ++ Labelled l ∷ behind)) _ h.0
    (first_at (suc k) (part_after part x) before l behind h.1
    ∙ ap (λ (n : ℕ). Some (record { line = n; part = parts (part_after part x) before })) (let e : suc k + length before ≡ k + suc (length before) = omega arith in e))

-- where lines lead

abbrev pub ahead : ℕ → Position → List Said → Position
ahead wb p [] = p
ahead wb p (s ∷ ss) = ahead wb (after wb p s) ss

pub ahead_count : (wb : ℕ) (p : Position) (ss : List Said) → (ahead wb p ss).count ≡ counts p.part p.count ss
ahead_count wb p [] = refl
ahead_count wb p (s ∷ ss) = ahead_count wb (after wb p s) ss

pub ahead_reach : (wb : ℕ) (p : Position) (ss : List Said) → (ahead wb p ss).reach ≡ reaches wb p.part p.reach ss
ahead_reach wb p [] = refl
ahead_reach wb p (s ∷ ss) = ahead_reach wb (after wb p s) ss

pub ahead_names : (wb : ℕ) (p : Position) (all : List (List ℕ)) (ss : List Said) → (ahead wb p ss).names ≡ names_after all p.names ss
ahead_names wb p all [] = refl
ahead_names wb p all (s ∷ ss) = ahead_names wb (after wb p s) all ss

pub ahead_part : (wb : ℕ) (p : Position) (ss : List Said) → (ahead wb p ss).part ≡ parts p.part ss
ahead_part wb p [] = refl
ahead_part wb p (s ∷ ss) = ahead_part wb (after wb p s) ss

count_up : (part : Part) (n : ℕ) (s : Said) → n ≤ count_after part n s
count_up InText n (Others ts) = omega arith
count_up InText n _ = omega arith
count_up Outside n s = omega arith
count_up InData n s = omega arith

reach_up : (wb k : ℕ) (s : Said) → 0 < wb → k ≤ reach_after wb k s
reach_up wb k (Labelled l) h = omega arith
reach_up wb k (Word z) h = omega arith
reach_up wb k (Byte z) h = omega arith
reach_up wb k (Space z) h = omega arith
reach_up wb k _ h = omega arith

reach_more : (wb : ℕ) (part : Part) (k : ℕ) (s : Said) → 0 < wb → k ≤ reach_in part wb k s
reach_more wb InData k s h = reach_up wb k s h
reach_more wb InText k s h = omega arith
reach_more wb Outside k s h = omega arith

module _ (d : RawDescription) (some : 0 < word_bytes d) where
  within_back : (p : Position) (ss : List Said) → IsWithin d (ahead (word_bytes d) p ss) → IsWithin d p
  within_back p [] h = h
  within_back p (s ∷ ss) h =
      let q = within_back (after (word_bytes d) p s) ss h in
      let i = q.instructions in
      let j = q.statics in
      let k = q.names in
      let x = count_up p.part p.count s in
      let y = reach_more (word_bytes d) p.part p.reach s some in
      let z = all_more_names p.names (symbols_on s) in
      record { instructions = omega (arith, i, x); statics = omega (arith, j, y); names = omega (arith, k, z) }

  module _ (all : List Said) where
    -- a line that is readable, and that a row makes if it is an instruction
    pub record IsFine (s : Said) : Type 0 where
      pub readable : s ≢ Unreadable
      pub made : (ts : List Token) → s ≡ Others ts → IsMade d all ts

    dotted : (b : Bool) (us ts : List Token) → cond b None (Some us) ≡ Some ts → us ≡ ts
    dotted true us ts e = absurd (cc)
    dotted false us ts e = cc

    instruction_is : (part : Part) (s : Said) (ts : List Token) → instruction_in part s ≡ Some ts → s ≡ Others ts
    instruction_is InText (Others us) ts e = ap Others (dotted (is_dotted us) us ts e)
    instruction_is InText _ ts e = absurd (cc)
    instruction_is Outside s ts e = absurd (cc)
    instruction_is InData s ts e = absurd (cc)

    stands : (before : List Said) (s : Said) (behind : List Said) (line : ℕ) → all ≡ before ++ s ∷ behind → line ≡ length before → LabelsDiffer all → (l : Label) → s ≡ Labelled l
        → StandsAt all l line
    stands before s behind line e m differ l same =
        let split : all ≡ before ++ Labelled l ∷ behind = e ∙ ap (λ (x : Said). before ++ x ∷ behind) same in
        record {
          part = parts Outside before;
          first =
              ap (first_place_of l) split
              ∙ first_at 0 Outside before l behind (none_before before l behind (subst LabelsDiffer split differ))
              ∙ ap (λ (n : ℕ). Some (record { line = n; part = parts Outside before })) (let q : 0 + length before ≡ line = omega (arith, m) in q);
        }
      where
        first_place_of : Label → List Said → Option Place
        first_place_of k ss = first_place ss k

    pub stands_in : (before : List Said) (l : Label) (behind : List Said) (part : Part) → all ≡ before ++ Labelled l ∷ behind → LabelsDiffer all → parts Outside before ≡ part
        → StandsIn all l part
    stands_in before l behind part split differ e =
        record {
          line = 0 + length before;
          first =
              ap (λ (ss : List Said). first_from 0 Outside l ss) split
              ∙ first_at 0 Outside before l behind (none_before before l behind (subst LabelsDiffer split differ))
              ∙ ap (λ (q : Part). Some (record { line = 0 + length before; part = q })) e;
        }

    pub walks : (before rest : List Said) (p : Position) → all ≡ before ++ rest → p.line ≡ length before → LabelsDiffer all → AreInPlace d.word p.part rest → Each IsFine rest
        → IsWithin d (ahead (word_bytes d) p rest) → Walks d all p rest (ahead (word_bytes d) p rest)
    walks before [] p e m differ places fine within = refl
    walks before (s ∷ ss) p e m differ places fine within = (
      record {
        readable = fine.0.readable;
        made = λ ts q. fine.0.made ts (instruction_is p.part s ts q);
        first = λ l q. stands before s ss p.line e m differ l q;
        in_place = places.0;
        within = within_back (after (word_bytes d) p s) ss within;
      },
      walks (before ++ s ∷ []) ss (after (word_bytes d) p s) (e ∙ sym (append_assoc before (s ∷ []) ss))
          (let q : p.line + 1 ≡ length (before ++ s ∷ []) = omega (arith, m, length-append before (s ∷ [])) in q) differ places.1 fine.1 within,
    )
