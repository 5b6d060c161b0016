-- A label that an instruction names stands somewhere.
use Rattle.std.proofs.Common.{◌≡◌, ◌≢◌, ℕ, zero, suc, ◌+◌, ◌<◌, ◌==◌, Bool, true, false, not, cond, List, [], ◌∷◌, ◌++◌, length, get_or, Option, Some, None, option_map, slice_get, All, AllPairs, Contains, refl, sym, ap, subst, ◌∙◌, arith}
use Rattle.std.specs.List.{AllZip, AllByRecursion}
use Rattle.std.specs.Str.{bytes_eq}
use Rattle.std.proofs.lemmas.Bool.{eqb-true}
use Rattle.std.proofs.lemmas.Slice.Eq.{bytes_eq-Decides}
use Rattle.std.proofs.lemmas.List.Elements.{All-from_recursion, All-head, All-tail, Contains-append_right}
use Rattle.rtl_tree.specs.Names.{AreNames}
use Rattle.rtl_tree.specs.declared.c_names.Names.{Names}
use Rattle.rtl_tree.specs.declared.cells.Lab.{Lab}
use Rattle.rtl_tree.specs.declared.cells.Lab.TheVariants as lab
use Rattle.rtl_value.specs.declared.state.LabelAt.{LabelAt}
use Rattle.md_rows.specs.declared.description.RawDescription.{RawDescription}
use Rattle.md_rows.specs.declared.instance.Bound.{Bound}
use Rattle.md_rows.specs.declared.instance.Bound.TheVariants.{Reg, Num as NumBound, Sym, Label as LabelBound}
use Rattle.md_rows.specs.declared.instance.Instance.{Instance}
use Rattle.asm_token.specs.Tokens.{Token}
use Rattle.asm_row.specs.Readable.{IsReadable}
use Rattle.asm_row.specs.Reading.{Value, Object, Function, AreValues, value_in, Block as BlockValue}
use Rattle.asm_row.proofs.FoundOnce.{found_once}
use Rattle.asm_program.specs.declared.places.Part.{Part}
use Rattle.asm_program.specs.declared.places.Part.TheVariants.{Outside, InText, InData}
use Rattle.asm_program.specs.declared.places.Place.{Place}
use Rattle.asm_program.specs.TextLines.{Label, Block, Symbol, Said, Nothing, Unreadable, TextBegins, DataBegins, Labelled, Mislabelled, Word, Byte, Space, Others}
use Rattle.asm_program.specs.Places.{Position, start, after, part_after, first_from, first_place, same_label, is_label_line}
use Rattle.asm_program.specs.Rules.{IsMade, IsPlaced, IsSound, StandsIn, Walks, instruction_in, is_dotted, is_in_place, word_bytes}
use Rattle.asm_program.specs.Programs.{IsLab, IsStanding, instructions, text_labels}
use Rattle.asm_jumps.specs.LabelPlaces.{IsAt}
use Rattle.asm_instances.specs.Known.{IsBoundLine}
use Rattle.asm_text.proofs.Assembling.{has_name}
use Rattle.asm_text.proofs.DataPart.{begins_in_text, still_text}
use Rattle.asm_text.proofs.Joined.{above, contains_first}

same_item : {A : Type 0} (x y : A) → Some x ≡ Some y → x ≡ y
same_item x y e = cc

not_dotted : (b : Bool) (ts : List Token) → not b ≡ true → cond b None (Some ts) ≡ Some ts
not_dotted true ts e = absurd (cc)
not_dotted false ts e = refl

instruction_of : (w : ℕ) (part : Part) (ts : List Token) → is_in_place w part (Others ts) ≡ true → instruction_in part (Others ts) ≡ Some ts
instruction_of w Outside ts e = absurd (cc)
instruction_of w InText ts e = not_dotted (is_dotted ts) ts e
instruction_of w InData ts e = absurd (cc)

get_is : (xs : List (List ℕ)) (k : ℕ) (x : List ℕ) → slice_get xs k ≡ Some x → get_or xs k x ≡ x
get_is [] k x e = absurd (cc)
get_is (y ∷ ys) zero x e = same_item y x e
get_is (y ∷ ys) (suc k) x e = get_is ys k x e

same_index : (xs : List (List ℕ)) (i j : ℕ) (x : List ℕ) → AllPairs (λ m n. m ≢ n) xs → slice_get xs i ≡ Some x → slice_get xs j ≡ Some x → i ≡ j
same_index [] i j x d e f = absurd (cc)
same_index (y ∷ ys) zero zero x d e f = refl
same_index (y ∷ ys) zero (suc j) x d e f = let h = has_name ys j x f in absurd (d zero (suc j) x (omega arith) (omega (arith, h)) (same_item y x e ∙ sym (get_is ys j x f)))
same_index (y ∷ ys) (suc i) zero x d e f = let h = has_name ys i x e in absurd (d zero (suc i) x (omega arith) (omega (arith, h)) (same_item y x f ∙ sym (get_is ys i x e)))
same_index (y ∷ ys) (suc i) (suc j) x d e f = ap suc (same_index ys i j x (λ a b u h k. d (suc a) (suc b) u (omega (arith, h)) (omega (arith, k))) e f)

same_part : (p q : Place) → Some p ≡ Some q → p.part ≡ q.part
same_part p q e = ap (λ (r : Place). r.part) (same_item p q e)

is_same : (m l : Label) → same_label m l ≡ true → m ≡ l
is_same (Block a) (Block b) e = ap Block (eqb-true a b e)
is_same (Symbol a) (Symbol b) e = ap Symbol ((bytes_eq-Decides a b).0 e)
is_same (Block a) (Symbol b) e = absurd (cc)
is_same (Symbol a) (Block b) e = absurd (cc)

data_is_no_text : InData ≡ InText → ⊥
data_is_no_text e = cc

never_by : (b : Bool) (j line : ℕ) (o : Option Place) → cond b (Some (record { line = j; part = InData })) o ≡ Some (record { line = line; part = InText })
    → (o ≡ Some (record { line = line; part = InText }) → ⊥) → ⊥
never_by true j line o e f = data_is_no_text (same_part (record { line = j; part = InData }) (record { line = line; part = InText }) e)
never_by false j line o e f = f e

never_text : (j : ℕ) (l : Label) (ss : List Said) (line : ℕ) → first_from j InData l ss ≡ Some (record { line = line; part = InText }) → ⊥
never_text j l [] line e = absurd (cc)
never_text j l (s ∷ ss) line e = never_by (is_label_line l s) j line (first_from (suc j) InData l ss) e (λ f. never_text (suc j) l ss line f)

record IsMarked (es : List (Label × ℕ)) (l : Label) : Type 0 where
  at : ℕ
  has : Contains es (l, at)

marked_more : (x : Label × ℕ) (es : List (Label × ℕ)) (l : Label) → IsMarked es l → IsMarked (x ∷ es) l
marked_more x es l m = record { at = m.at; has = Contains-append_right (x ∷ []) es (l, m.at) m.has }

marked_by : (b : Bool) (m l : Label) (k j line : ℕ) (part : Part) (o : Option Place) (es : List (Label × ℕ)) → same_label m l ≡ b
    → cond b (Some (record { line = j; part = part })) o ≡ Some (record { line = line; part = InText }) → (o ≡ Some (record { line = line; part = InText }) → IsMarked es l) → IsMarked ((m, k) ∷ es) l
marked_by true m l k j line part o es s e f =
    record { at = k; has = subst (λ (x : Label). Contains ((m, k) ∷ es) (x, k)) (is_same m l s) (contains_first (m, k) es) }
marked_by false m l k j line part o es s e f = marked_more (m, k) es l (f e)

module _ (d : RawDescription) (all : List Said) where
  made_all : (ss : List Said) (p q : Position) → Walks d all p ss q → AllByRecursion (IsMade d all) (instructions ss)
  made_all [] p q w = tt
  made_all (Others ts ∷ ss) p q w = (w.0.made ts (instruction_of d.word p.part ts w.0.in_place), made_all ss (after (word_bytes d) p (Others ts)) q w.1)
  made_all (Nothing ∷ ss) p q w = made_all ss (after (word_bytes d) p Nothing) q w.1
  made_all (Unreadable ∷ ss) p q w = made_all ss (after (word_bytes d) p Unreadable) q w.1
  made_all (TextBegins ∷ ss) p q w = made_all ss (after (word_bytes d) p TextBegins) q w.1
  made_all (DataBegins ∷ ss) p q w = made_all ss (after (word_bytes d) p DataBegins) q w.1
  made_all (Labelled l ∷ ss) p q w = made_all ss (after (word_bytes d) p (Labelled l)) q w.1
  made_all (Mislabelled ∷ ss) p q w = made_all ss (after (word_bytes d) p Mislabelled) q w.1
  made_all (Word z ∷ ss) p q w = made_all ss (after (word_bytes d) p (Word z)) q w.1
  made_all (Byte z ∷ ss) p q w = made_all ss (after (word_bytes d) p (Byte z)) q w.1
  made_all (Space z ∷ ss) p q w = made_all ss (after (word_bytes d) p (Space z)) q w.1

  marked : (ss : List Said) (p q : Position) (j k line : ℕ) (l : Label) → Walks d all p ss q → p.part ≢ InData → first_from j p.part l ss ≡ Some (record { line = line; part = InText })
      → IsMarked (text_labels k ss) l
  marked [] p q j k line l w n e = absurd (cc)
  marked (Labelled m ∷ ss) p q j k line l w n e =
      marked_by (same_label m l) m l k j line p.part (first_from (suc j) (part_after p.part (Labelled m)) l ss) (text_labels k ss) refl e
      (λ f. marked ss (after (word_bytes d) p (Labelled m)) q (suc j) k line l w.1 (still_text (Labelled m) p.part (λ g. cc) n) f)
  marked (DataBegins ∷ ss) p q j k line l w n e =
      let t : p.part ≡ InText = begins_in_text d.word p.part n w.0.in_place in
      absurd (never_text (suc j) l ss line (subst (λ (r : Part). first_from (suc j) (part_after r DataBegins) l ss ≡ Some (record { line = line; part = InText })) t e))
  marked (Others ts ∷ ss) p q j k line l w n e = marked ss (after (word_bytes d) p (Others ts)) q (suc j) (suc k) line l w.1 (still_text (Others ts) p.part (λ g. cc) n) e
  marked (Nothing ∷ ss) p q j k line l w n e = marked ss (after (word_bytes d) p Nothing) q (suc j) k line l w.1 (still_text Nothing p.part (λ g. cc) n) e
  marked (Unreadable ∷ ss) p q j k line l w n e = marked ss (after (word_bytes d) p Unreadable) q (suc j) k line l w.1 (still_text Unreadable p.part (λ g. cc) n) e
  marked (TextBegins ∷ ss) p q j k line l w n e = marked ss (after (word_bytes d) p TextBegins) q (suc j) k line l w.1 (still_text TextBegins p.part (λ g. cc) n) e
  marked (Mislabelled ∷ ss) p q j k line l w n e = marked ss (after (word_bytes d) p Mislabelled) q (suc j) k line l w.1 (still_text Mislabelled p.part (λ g. cc) n) e
  marked (Word z ∷ ss) p q j k line l w n e = marked ss (after (word_bytes d) p (Word z)) q (suc j) k line l w.1 (still_text (Word z) p.part (λ g. cc) n) e
  marked (Byte z ∷ ss) p q j k line l w n e = marked ss (after (word_bytes d) p (Byte z)) q (suc j) k line l w.1 (still_text (Byte z) p.part (λ g. cc) n) e
  marked (Space z ∷ ss) p q j k line l w n e = marked ss (after (word_bytes d) p (Space z)) q (suc j) k line l w.1 (still_text (Space z) p.part (λ g. cc) n) e

  module _ (readable : IsReadable d) (sound : IsSound d all) (n : Names) (names : AreNames n.functions) (ls : List LabelAt) (labels : AllZip (IsAt n) (text_labels 0 all) ls) where
    stands : (l : Label) → StandsIn all l InText → IsMarked (text_labels 0 all) l
    stands l s = marked all start sound.last 0 0 s.line l sound.walks (λ e. cc) s.first

    by_label : (l : Label) (t : Lab) → StandsIn all l InText → ((u : Lab) → IsLab n l u → u ≡ t) → IsStanding ls (LabelBound t)
    by_label l t s f =
        let m = stands l s in
        let a = above n (text_labels 0 all) ls (l, m.at) labels m.has in
        (a.label.at, subst (λ (u : Lab). Contains ls (record { label = u; at = a.label.at })) (f a.label.label a.is.label) a.has)

    function_is : (f : ℕ) (x : List ℕ) → slice_get n.functions f ≡ Some x → (u : Lab) → IsLab n (Symbol x) u → u ≡ lab.Function f
    function_is f x e (lab.Function g) h = ap lab.Function (same_index n.functions g f x names.different h e)
    function_is f x e (lab.Block b) h = absurd h

    by_function : (o : Option (List ℕ)) (f : ℕ) (v : Value) → slice_get n.functions f ≡ o → option_map Function o ≡ Some v → IsPlaced all v → IsStanding ls (LabelBound (lab.Function f))
    by_function None f v q e p = absurd (cc)
    by_function (Some x) f v q e p = by_label (Symbol x) (lab.Function f) (subst (IsPlaced all) (sym (same_item (Function x) v e)) p) (function_is f x q)

    standing_one : (b : Bound) (v : Value) → value_in n b ≡ Some v → IsPlaced all v → IsStanding ls b
    standing_one (LabelBound (lab.Block m)) v e p = by_label (Block m) (lab.Block m) (subst (IsPlaced all) (sym (same_item (BlockValue m) v e)) p) (λ u h. h)
    standing_one (LabelBound (lab.Function f)) v e p = by_function (slice_get n.functions f) f v refl e p
    standing_one (Reg c) v e p = tt
    standing_one (NumBound w) v e p = tt
    standing_one (Sym s) v e p = tt

    standing_all : (bs : List Bound) (vs : List Value) → AreValues n bs vs → All (IsPlaced all) vs → AllByRecursion (IsStanding ls) bs
    standing_all [] [] a h = tt
    standing_all [] (v ∷ vs) a h = absurd a
    standing_all (b ∷ bs) [] a h = absurd a
    standing_all (b ∷ bs) (v ∷ vs) a h = (standing_one b v a.0 (All-head (IsPlaced all) v vs h), standing_all bs vs a.1 (All-tail (IsPlaced all) v vs h))

    standing_line : (ts : List Token) (i : Instance) → IsMade d all ts → IsBoundLine d n ts i → All (IsStanding ls) i.binding
    standing_line ts i m b =
        All-from_recursion (IsStanding ls) i.binding
        (standing_all i.binding b.values b.are (subst (All (IsPlaced all)) (found_once d readable ts m.place i.row m.values b.values m.found b.found) m.placed))

    standing_lines : (tss : List (List Token)) (is : List Instance) → AllByRecursion (IsMade d all) tss → AllZip (IsBoundLine d n) tss is → AllByRecursion (λ i. All (IsStanding ls) i.binding) is
    standing_lines [] [] m z = tt
    standing_lines [] (i ∷ is) m z = absurd z
    standing_lines (ts ∷ tss) [] m z = absurd z
    standing_lines (ts ∷ tss) (i ∷ is) m z = (standing_line ts i m.0 z.0, standing_lines tss is m.1 z.1)

    pub are_standing : (is : List Instance) → AllZip (IsBoundLine d n) (instructions all) is → All (λ i. All (IsStanding ls) i.binding) is
    are_standing is z = All-from_recursion (λ i. All (IsStanding ls) i.binding) is (standing_lines (instructions all) is (made_all all start sound.last sound.walks) z)
