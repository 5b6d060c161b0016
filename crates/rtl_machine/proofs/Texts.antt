-- The program of a text can be loaded: what the limits of a text give of it.
use Rattle.std.proofs.Common.{◌≡◌, ◌≢◌, ℕ, suc, ◌+◌, ◌-◌, ◌<◌, ◌≤◌, ◌^◌, Bool, true, false, List, [], ◌∷◌, length, get_or, Some, None, All, Contains, inl, inr, refl, sym, subst, ap, ◌∙◌, arith}
use Rattle.std.specs.List.{AllZip, AllByRecursion}
use Rattle.std.proofs.lemmas.List.Elements.{All-from_recursion, All-nil, All-cons, All-append, All-contains}
use Rattle.std.proofs.lemmas.Option.{slice_get-get_or}
use Rattle.rtl_word.specs.Words.{IsWordSize}
use Rattle.rtl_tree.specs.declared.c_names.Names.{Names}
use Rattle.md_rows.specs.declared.description.RawDescription.{RawDescription}
use Rattle.md_rows.specs.declared.instance.Instance.{Instance}
use Rattle.md_instances.specs.Instances.{IsOfDescription}
use Rattle.asm_token.specs.Tokens.{Token}
use Rattle.asm_program.specs.declared.places.Part.{Part}
use Rattle.asm_program.specs.declared.places.Part.TheVariants.{Outside, InText, InData}
use Rattle.asm_program.specs.TextLines.{Block, Symbol, Said, Nothing, TextBegins, DataBegins, Labelled, Others}
use Rattle.asm_program.specs.Places.{Position, start, after, part_after, count_after, reach_in, reach_after}
use Rattle.asm_program.specs.Rules.{IsSound, Walks, is_in_place, instruction_limit, word_bytes}
use Rattle.asm_program.specs.Programs.{Assembled, HasObject, IsLineIn, IsText, instruction_of, instructions, data_part, bytes_after, bytes_from, object_of, objects_from}
use Rattle.asm_data.proofs.DataLines.{word_positive}
use Rattle.asm_data.proofs.Reach.{reaches}
use Rattle.md_said.specs.Sound.{SaidIsSound}
use Rattle.md_bounds.specs.Bounds.{SaidIsBounded}
use Rattle.rtl_machine.specs.Loading.{IsLoadable, TextsAreLoadable}
use Rattle.rtl_machine.proofs.Made.{IsMachineOf, checked_machine}

clash : false ≡ true → ⊥
clash e = cc

-- instances

module _ (d : RawDescription) (n : Names) where
  lines_from : (tss : List (List Token)) (is : List Instance) → AllZip (IsLineIn d n) tss is → AllByRecursion (IsOfDescription d) is
  lines_from [] [] z = tt
  lines_from [] (i ∷ is) z = absurd z
  lines_from (ts ∷ tss) [] z = absurd z
  lines_from (ts ∷ tss) (i ∷ is) z = ((z.0.line.row, z.0.line.is_instance), lines_from tss is z.1)

  same_length : (tss : List (List Token)) (is : List Instance) → AllZip (IsLineIn d n) tss is → length tss ≡ length is
  same_length [] [] z = refl
  same_length [] (i ∷ is) z = absurd z
  same_length (ts ∷ tss) [] z = absurd z
  same_length (ts ∷ tss) (i ∷ is) z = ap suc (same_length tss is z.1)

-- each instruction is counted

not_counted : (part : Part) (n : ℕ) (s : Said) → instruction_of s ≡ None → count_after part n s ≡ n
not_counted Outside n s e = refl
not_counted InData n s e = refl
not_counted InText n (Others ts) e = absurd (some_none e)
  where
    some_none : {A : Type 0} {x : A} → Some x ≡ None → ⊥
    some_none e = cc
not_counted InText n Nothing e = refl
not_counted InText n _ e = refl

counted_once : (w : ℕ) (part : Part) (n : ℕ) (ts : List Token) → is_in_place w part (Others ts) ≡ true → count_after part n (Others ts) ≡ n + 1
counted_once w Outside n ts e = absurd (clash e)
counted_once w InData n ts e = absurd (clash e)
counted_once w InText n ts e = refl

module _ (d : RawDescription) (all : List Said) where
  counted : (ss : List Said) (p q : Position) → Walks d all p ss q → p.count + length (instructions ss) ≡ q.count
  counted [] p q w = let e = ap (λ (x : Position). x.count) w in omega (arith, e)
  counted (Others ts ∷ ss) p q w =
      let e = counted_once d.word p.part p.count ts w.0.in_place in
      let f = counted ss (after (word_bytes d) p (Others ts)) q w.1 in
      omega (arith, e, f)
  counted (Nothing ∷ ss) p q w =
      let e = not_counted p.part p.count Nothing refl in let f = counted ss (after (word_bytes d) p Nothing) q w.1 in omega (arith, e, f)
  counted (s ∷ ss) p q w =
      let e = not_counted p.part p.count s refl in let f = counted ss (after (word_bytes d) p s) q w.1 in omega (arith, e, f)

  within_limit : (ss : List Said) (p q : Position) → p.count ≤ instruction_limit d.word → Walks d all p ss q → q.count ≤ instruction_limit d.word
  within_limit [] p q l w = subst (λ (x : Position). x.count ≤ instruction_limit d.word) w l
  within_limit (s ∷ ss) p q l w = within_limit ss (after (word_bytes d) p s) q w.0.within.instructions w.1

limit_is_word : (w : ℕ) → IsWordSize w → instruction_limit w < 2 ^ w
limit_is_word w (inl e) = subst (λ (v : ℕ). instruction_limit v < 2 ^ v) (sym e) (let h : 65535 < 65536 = omega arith in h)
limit_is_word w (inr e) = subst (λ (v : ℕ). instruction_limit v < 2 ^ v) (sym e) (let h : 1000000 < 4294967296 = omega arith in h)

-- the data

abbrev room : RawDescription → ℕ
room d = d.memory - d.stack

-- data behind these bytes leave room for the stack, and each object lies before it
record Fits (d : RawDescription) (bytes : List ℕ) (lines : List Said) : Type 0 where
  whole : d.base + length (bytes_from (word_bytes d) bytes lines) ≤ room d
  objects : All (λ o. o.1 ≤ room d) (objects_from d.base (word_bytes d) bytes lines)

object_fits : (most address : ℕ) (s : Said) → address ≤ most → All (λ o. o.1 ≤ most) (object_of address s)
object_fits most address (Labelled (Symbol s)) l = All-cons (λ (o : List ℕ × ℕ). o.1 ≤ most) (s, address) [] l (All-nil (λ (o : List ℕ × ℕ). o.1 ≤ most))
object_fits most address (Labelled (Block b)) l = All-nil (λ (o : List ℕ × ℕ). o.1 ≤ most)
object_fits most address Nothing l = All-nil (λ (o : List ℕ × ℕ). o.1 ≤ most)
object_fits most address _ l = All-nil (λ (o : List ℕ × ℕ). o.1 ≤ most)

no_reach : (part : Part) (wb k : ℕ) (s : Said) → part ≢ InData → reach_in part wb k s ≡ k
no_reach Outside wb k s n = refl
no_reach InText wb k s n = refl
no_reach InData wb k s n = absurd (n refl)

abbrev is_data_line : Said → Bool
is_data_line DataBegins = true
is_data_line _ = false

begins_in_text : (w : ℕ) (part : Part) → part ≢ InData → is_in_place w part DataBegins ≡ true → part ≡ InText
begins_in_text w Outside n e = absurd (clash e)
begins_in_text w InText n e = refl
begins_in_text w InData n e = absurd (n refl)

outside : Outside ≢ InData
outside e = cc

in_text : InText ≢ InData
in_text e = cc

still_text : (s : Said) (part : Part) → is_data_line s ≡ false → part ≢ InData → part_after part s ≢ InData
still_text s InData e n = absurd (n refl)
still_text TextBegins Outside e n = in_text
still_text Nothing Outside e n = outside
still_text _ Outside e n = outside
still_text DataBegins InText e n = absurd (clash (sym e))
still_text Nothing InText e n = in_text
still_text _ InText e n = in_text

module _ (d : RawDescription) (size : IsWordSize d.word) (all : List Said) where
  -- in the data part
  data_fits : (ss : List Said) (p q : Position) (bytes : List ℕ) → p.part ≡ InData → p.reach ≡ length bytes → d.base + length bytes ≤ room d → Walks d all p ss q
      → Fits d bytes ss
  data_fits [] p q bytes e r l w = record { whole = l; objects = All-nil (λ (o : List ℕ × ℕ). o.1 ≤ room d) }
  data_fits (s ∷ ss) p q bytes e r l w =
      let more : List ℕ = bytes_after (word_bytes d) bytes s in
      let reach : reach_in p.part (word_bytes d) p.reach s ≡ length more =
      ap (λ (x : Part). reach_in x (word_bytes d) p.reach s) e ∙ ap (λ (k : ℕ). reach_after (word_bytes d) k s) r
      ∙ sym (reaches (word_bytes d) bytes s (word_positive d size)) in
      let fits : d.base + length more ≤ room d = subst (λ (k : ℕ). d.base + k ≤ room d) reach w.0.within.statics in
      let rest = data_fits ss (after (word_bytes d) p s) q more (ap (λ (x : Part). part_after x s) e) reach fits w.1 in
      record {
        whole = rest.whole;
        objects = All-append (λ (o : List ℕ × ℕ). o.1 ≤ room d) (object_of (d.base + length more) s) (objects_from d.base (word_bytes d) more ss)
            (object_fits (room d) (d.base + length more) s fits) rest.objects;
      }

  -- before it
  text_fits : (ss : List Said) (p q : Position) → p.part ≢ InData → p.reach ≡ 0 → d.base ≤ room d → Walks d all p ss q → Fits d [] (data_part ss)
  text_fits [] p q n r l w = record { whole = (let h : d.base + 0 ≤ room d = omega (arith, l) in h); objects = All-nil (λ (o : List ℕ × ℕ). o.1 ≤ room d) }
  text_fits (DataBegins ∷ ss) p q n r l w =
      data_fits ss (after (word_bytes d) p DataBegins) q []
      (ap (λ (x : Part). part_after x DataBegins) (begins_in_text d.word p.part n w.0.in_place))
      (no_reach p.part (word_bytes d) p.reach DataBegins n ∙ r) (let h : d.base + 0 ≤ room d = omega (arith, l) in h) w.1
  text_fits (Nothing ∷ ss) p q n r l w =
      text_fits ss (after (word_bytes d) p Nothing) q (still_text Nothing p.part refl n) (no_reach p.part (word_bytes d) p.reach Nothing n ∙ r) l w.1
  text_fits (s ∷ ss) p q n r l w =
      text_fits ss (after (word_bytes d) p s) q (still_text s p.part refl n) (no_reach p.part (word_bytes d) p.reach s n ∙ r) l w.1

  -- a text has a first line, behind which the data leave room already
  base_fits : (ss : List Said) (q : Position) → Walks d all start ss q → q.part ≢ Outside → d.base ≤ room d
  base_fits [] q w n = absurd (n (ap (λ (x : Position). x.part) (sym w)))
  base_fits (s ∷ ss) q w n = let h : d.base + 0 ≤ room d = w.0.within.statics in omega (arith, h)

  fits_all : IsSound d all → Fits d [] (data_part all)
  fits_all s = text_fits all start s.last outside refl (base_fits all s.last s.walks s.begun) s.walks

-- the address of each object, of which each has a name
address_fits : (d : RawDescription) (p : Assembled) (saids : List Said) → length p.symbols ≡ length p.names.objects
    → ((name : List ℕ) (address : ℕ) → HasObject p name address → Contains (objects_from d.base (word_bytes d) [] (data_part saids)) (name, address))
    → Fits d [] (data_part saids) → (k e : ℕ) → k < length p.symbols → get_or p.symbols k e ≤ room d
address_fits d p saids many has fits k e within =
    let named : k < length p.names.objects = omega (arith, many, within) in
    let name : List ℕ = get_or p.names.objects k [] in
    let address : ℕ = get_or p.symbols k e in
    All-contains (λ (o : List ℕ × ℕ). o.1 ≤ room d) (objects_from d.base (word_bytes d) [] (data_part saids)) (name, address) fits.objects
    (has name address (record {
      place = k;
      has_name = slice_get-get_or p.names.objects k [] named;
      has_address = slice_get-get_or p.symbols k e within;
    }))

machine_loads : (d : RawDescription) (text : List ℕ) (p : Assembled) → IsMachineOf d → IsText d text p → IsLoadable d p
machine_loads d text p m t =
    let fits = fits_all d m.size t.saids t.sound in
    let memory = m.memory in
    let whole = fits.whole in
    let bytes = ap length t.program.bytes in
    let count : 0 + length (instructions t.saids) ≡ t.sound.last.count = counted d t.saids t.saids start t.sound.last t.sound.walks in
    let limit = within_limit d t.saids t.saids start t.sound.last (omega arith) t.sound.walks in
    let word = limit_is_word d.word m.size in
    let many = same_length d p.names (instructions t.saids) p.lines t.program.lines in
    record {
      instances = All-from_recursion (IsOfDescription d) p.lines (lines_from d p.names (instructions t.saids) p.lines t.program.lines);
      symbols = λ k e within.
          let a = address_fits d p t.saids t.program.addresses (λ name address h. (t.program.objects name address).0 h) fits k e within in
          omega (arith, a, memory);
      short = omega (arith, count, limit, word, many);
      within_memory = omega (arith, whole, bytes);
    }

pub texts_loadable : SaidIsSound → SaidIsBounded → TextsAreLoadable
texts_loadable sound bounded w d text p c t = machine_loads d text p (checked_machine w d sound bounded c) t
