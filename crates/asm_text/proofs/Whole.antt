-- A text's program.
use Rattle.std.proofs.Common.{◌≡◌, ◌≢◌, ℕ, zero, suc, ◌<◌, ◌≤◌, ◌↔◌, true, List, [], ◌∷◌, ◌++◌, length, map, get_or, Some, slice_get, Contains, refl, sym, ap, subst, ◌∙◌, arith}
use Rattle.std.proofs.lemmas.List.{length-map}
use Rattle.std.specs.List.{AllZip}
use Rattle.std.proofs.lemmas.List.Elements.{Contains-append_right}
use Rattle.md_rows.specs.declared.description.RawDescription.{RawDescription}
use Rattle.md_rows.specs.declared.instance.Instance.{Instance}
use Rattle.asm_token.specs.Tokens.{Token}
use Rattle.asm_program.specs.declared.places.Part.{Part}
use Rattle.asm_program.specs.declared.places.Part.TheVariants.{Outside, InText, InData}
use Rattle.asm_program.specs.TextLines.{Label, Block, Symbol, Said, Nothing, Unreadable, TextBegins, DataBegins, Labelled, Mislabelled, Word, Byte, Space, Others}
use Rattle.asm_program.specs.Places.{Position, start, after, part_after}
use Rattle.asm_program.specs.Rules.{AreSaid, IsSound, Walks, word_bytes}
use Rattle.asm_program.specs.Programs.{Assembled, HasObject, IsLineIn, IsProgramOf, IsText, bytes_from, data_part, instructions, objects_from, text_labels}
use Rattle.asm_names.specs.LabelNames.{AreNamesOf, names_in, taken}
use Rattle.asm_jumps.specs.LabelPlaces.{IsAt}
use Rattle.asm_instances.specs.Known.{IsBoundLine}
use Rattle.asm_data.specs.Data.{addresses}
use Rattle.asm_text.proofs.DataPart.{begins_in_text, still_text}
use Rattle.asm_text.proofs.Joined.{contains_first, has_labels, names_are, zip_weaker}

not_taken : (part : Part) (s : List ℕ) (rest : List (List ℕ)) → part ≢ InData → taken InData part (Some s) rest ≡ rest
not_taken Outside s rest n = refl
not_taken InText s rest n = refl
not_taken InData s rest n = absurd (n refl)

module _ (d : RawDescription) (all : List Said) where
  data_names : (ss : List Said) (p q : Position) → p.part ≢ InData → Walks d all p ss q → names_in InData p.part ss ≡ names_in InData InData (data_part ss)
  data_names [] p q n w = refl
  data_names (DataBegins ∷ ss) p q n w = ap (λ (r : Part). names_in InData (part_after r DataBegins) ss) (begins_in_text d.word p.part n w.0.in_place)
  data_names (Labelled (Symbol s) ∷ ss) p q n w =
      not_taken p.part s (names_in InData (part_after p.part (Labelled (Symbol s))) ss) n
      ∙ data_names ss (after (word_bytes d) p (Labelled (Symbol s))) q (still_text (Labelled (Symbol s)) p.part (λ f. cc) n) w.1
  data_names (Labelled (Block b) ∷ ss) p q n w = data_names ss (after (word_bytes d) p (Labelled (Block b))) q (still_text (Labelled (Block b)) p.part (λ f. cc) n) w.1
  data_names (Nothing ∷ ss) p q n w = data_names ss (after (word_bytes d) p Nothing) q (still_text Nothing p.part (λ f. cc) n) w.1
  data_names (Unreadable ∷ ss) p q n w = data_names ss (after (word_bytes d) p Unreadable) q (still_text Unreadable p.part (λ f. cc) n) w.1
  data_names (TextBegins ∷ ss) p q n w = data_names ss (after (word_bytes d) p TextBegins) q (still_text TextBegins p.part (λ f. cc) n) w.1
  data_names (Mislabelled ∷ ss) p q n w = data_names ss (after (word_bytes d) p Mislabelled) q (still_text Mislabelled p.part (λ f. cc) n) w.1
  data_names (Word z ∷ ss) p q n w = data_names ss (after (word_bytes d) p (Word z)) q (still_text (Word z) p.part (λ f. cc) n) w.1
  data_names (Byte z ∷ ss) p q n w = data_names ss (after (word_bytes d) p (Byte z)) q (still_text (Byte z) p.part (λ f. cc) n) w.1
  data_names (Space z ∷ ss) p q n w = data_names ss (after (word_bytes d) p (Space z)) q (still_text (Space z) p.part (λ f. cc) n) w.1
  data_names (Others ts ∷ ss) p q n w = data_names ss (after (word_bytes d) p (Others ts)) q (still_text (Others ts) p.part (λ f. cc) n) w.1

same_item : {A : Type 0} (x y : A) → Some x ≡ Some y → x ≡ y
same_item x y e = cc

-- a name and an address at one place are an object
paired : (os : List (List ℕ × ℕ)) (place : ℕ) (name : List ℕ) (address : ℕ) → slice_get (map (λ o. o.0) os) place ≡ Some name → slice_get (map (λ o. o.1) os) place ≡ Some address
    → Contains os (name, address)
paired [] place name address e f = absurd (cc)
paired (o ∷ os) zero name address e f =
    subst (λ (x : List ℕ). Contains (o ∷ os) (x, address)) (same_item o.0 name e)
    (subst (λ (k : ℕ). Contains (o ∷ os) (o.0, k)) (same_item o.1 address f) (contains_first o os))
paired (o ∷ os) (suc k) name address e f = Contains-append_right (o ∷ []) os (name, address) (paired os k name address e f)

placed : {B : Type 0} (f : List ℕ × ℕ → B) (os : List (List ℕ × ℕ)) (k : ℕ) (x : List ℕ × ℕ) → k < length os → get_or os k x ≡ x → slice_get (map f os) k ≡ Some (f x)
placed f [] k x h e = absurd (omega arith)
placed f (o ∷ os) zero x h e = ap (λ (y : List ℕ × ℕ). Some (f y)) e
placed f (o ∷ os) (suc k) x h e = placed f os k x (omega arith) e

has_objects : (p : Assembled) (os : List (List ℕ × ℕ)) → p.names.objects ≡ map (λ o. o.0) os → p.symbols ≡ map (λ o. o.1) os → (name : List ℕ) (address : ℕ)
    → HasObject p name address ↔ Contains os (name, address)
has_objects p os e f name address = (to, from)
  where
    to : HasObject p name address → Contains os (name, address)
    to h =
        paired os h.place name address (subst (λ (xs : List (List ℕ)). slice_get xs h.place ≡ Some name) e h.has_name) (subst (λ (xs : List ℕ). slice_get xs h.place ≡ Some address) f h.has_address)

    from : Contains os (name, address) → HasObject p name address
    from c =
        record {
          place = c.0;
          has_name = subst (λ (xs : List (List ℕ)). slice_get xs c.0 ≡ Some name) (sym e) (placed (λ o. o.0) os c.0 (name, address) c.1 c.2);
          has_address = subst (λ (xs : List ℕ). slice_get xs c.0 ≡ Some address) (sym f) (placed (λ o. o.1) os c.0 (name, address) c.1 c.2);
        }

pub objects_are : (d : RawDescription) (all : List Said) (p : Assembled) → IsSound d all → AreNamesOf p.names all
    → p.names.objects ≡ map (λ o. o.0) (objects_from d.base (word_bytes d) [] (data_part all))
objects_are d all p s n = n.objects ∙ data_names d all all start s.last (λ e. cc) s.walks ∙ names_are d.base (word_bytes d) [] (data_part all)

pub same_many : (d : RawDescription) (all : List Said) (p : Assembled) → IsSound d all → AreNamesOf p.names all → p.symbols ≡ addresses d [] (data_part all) → length p.symbols ≡ length p.names.objects
same_many d all p s n e =
    ap length e ∙ length-map (objects_from d.base (word_bytes d) [] (data_part all)) (λ o. o.1) ∙ sym (length-map (objects_from d.base (word_bytes d) [] (data_part all)) (λ o. o.0))
    ∙ sym (ap length (objects_are d all p s n))

pub is_text : (d : RawDescription) (text : List ℕ) (all : List Said) (p : Assembled) → AreSaid text all → IsSound d all → AreNamesOf p.names all
    → AllZip (IsAt p.names) (text_labels 0 all) p.labels → AllZip (IsBoundLine d p.names) (instructions all) p.lines
    → p.bytes ≡ bytes_from (word_bytes d) [] (data_part all) → p.symbols ≡ addresses d [] (data_part all) → IsText d text p
is_text d text all p a s n ls is bs ss =
    record {
      saids = all;
      said = a;
      sound = s;
      program = record {
        lines = zip_weaker (IsBoundLine d p.names) (IsLineIn d p.names) (λ ts i b. b.line) (instructions all) p.lines is;
        labels = has_labels p (text_labels 0 all) ls;
        addresses = same_many d all p s n ss;
        objects = has_objects p (objects_from d.base (word_bytes d) [] (data_part all)) (objects_are d all p s n) ss;
        bytes = bs;
      };
    }
