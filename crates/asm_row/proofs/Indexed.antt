-- Rows by the first tokens of their texts.
use Rattle.std.proofs.Common.{◌≡◌, ◌⊎◌, inl, inr, ℕ, ◌+◌, ◌<◌, Bool, true, false, cond, List, [], ◌∷◌, ◌++◌, slice_get, Contains, refl, sym, ap, subst, ◌∙◌, append-nil, arith}
use Rattle.std.specs.Bool.{Decides}
use Rattle.std.specs.Global.{Vec}
use Rattle.std.specs.Option.{option_map_or, unwrap_or}
use Rattle.std.specs.Prelude.{Option, Some, None}
use Rattle.std.specs.Str.{bytes_eq}
use Rattle.std.proofs.lemmas.List.Elements.{Contains-append_left, Contains-append_right}
use Rattle.std.proofs.lemmas.Slice.Eq.{bytes_eq-Decides}
use Rattle.asm_token.specs.Tokens.{Token}
use Rattle.md_rows.specs.declared.description.RawDescription.{RawDescription}
use Rattle.md_rows.specs.declared.row.Row.{Row}
use Rattle.asm_row.specs.declared.listing.Index.{Index}
use Rattle.asm_row.specs.Reading.{Value, IsReading}
use Rattle.asm_row.specs.Found.{IsRowRead}
use Rattle.asm_row.specs.Index.{listed, places_under, first_name, IsAdded, AreListed, IsReadAt}
use Rattle.asm_row.proofs.HoleValues.{same_item}

abbrev pub items_or_none : Option (Vec ℕ) → List ℕ
items_or_none o = option_map_or (λ v. v.items) o []

pub items_taken : (o : Option (Vec ℕ)) (new : Vec ℕ) → new.items ≡ [] → (unwrap_or o new).items ≡ items_or_none o
items_taken None new e = e
items_taken (Some v) new e = refl

-- what is listed, once what is listed under a name was taken out and put back with one place more
pub listed_with :
    (before between after : List ℕ → Option (Vec ℕ)) (name : List ℕ) (v : Vec ℕ) (place : ℕ)
    → ((other : List ℕ) → between other ≡ cond (bytes_eq name other) None (before other))
    → ((other : List ℕ) → after other ≡ cond (bytes_eq name other) (Some v) (between other)) → v.items ≡ items_or_none (before name) ++ place ∷ []
    → (other : List ℕ) → items_or_none (after other) ≡ items_or_none (before other) ++ cond (bytes_eq name other) (place ∷ []) []
listed_with before between after name v place taken put pushed other = by (bytes_eq name other) (bytes_eq-Decides name other) (taken other) (put other)
  where
    by :
        (b : Bool) → Decides b (name ≡ other) → between other ≡ cond b None (before other) → after other ≡ cond b (Some v) (between other)
        → items_or_none (after other) ≡ items_or_none (before other) ++ cond b (place ∷ []) []
    by true d t e = ap items_or_none e ∙ pushed ∙ ap (λ n. items_or_none (before n) ++ place ∷ []) (d.0 refl)
    by false d t e = ap items_or_none (e ∙ t) ∙ sym (append-nil (items_or_none (before other)))

only : (x : ℕ) → Contains (x ∷ []) x
only x = (0, omega arith, refl)

-- lists of which one has a place more, and the others lose none
added : (old new : Index) (key : Option (List ℕ)) (place : ℕ) (more : Option (List ℕ) → List ℕ)
    → ((other : Option (List ℕ)) → places_under new other ≡ places_under old other ++ more other) → more key ≡ place ∷ [] → IsAdded old new key place
added old new key place more each this = record {
  is_there = subst (λ (xs : List ℕ). Contains xs place) (sym (each key ∙ ap (λ (m : List ℕ). places_under old key ++ m) this))
      (Contains-append_right (places_under old key) (place ∷ []) place (only place));
  kept = λ other i c. subst (λ (xs : List ℕ). Contains xs i) (sym (each other)) (Contains-append_left (places_under old other) (more other) i c);
}

abbrev under_name : List ℕ → ℕ → Option (List ℕ) → List ℕ
under_name name place (Some other) = cond (bytes_eq name other) (place ∷ []) []
under_name name place None = []

abbrev under_none : ℕ → Option (List ℕ) → List ℕ
under_none place (Some other) = []
under_none place None = place ∷ []

pub added_name : (old new : Index) (name : List ℕ) (place : ℕ)
    → ((other : List ℕ) → listed new.named other ≡ listed old.named other ++ cond (bytes_eq name other) (place ∷ []) [])
    → new.others.items ≡ old.others.items → IsAdded old new (Some name) place
added_name old new name place each same = added old new (Some name) place (under_name name place) all (ap (λ b. cond b (place ∷ []) []) ((bytes_eq-Decides name name).1 refl))
  where
    all : (other : Option (List ℕ)) → places_under new other ≡ places_under old other ++ under_name name place other
    all (Some other) = each other
    all None = same ∙ sym (append-nil old.others.items)

pub added_other : (old new : Index) (place : ℕ) → ((other : List ℕ) → listed new.named other ≡ listed old.named other)
    → new.others.items ≡ old.others.items ++ place ∷ [] → IsAdded old new None place
added_other old new place each pushed = added old new None place (under_none place) all refl
  where
    all : (other : Option (List ℕ)) → places_under new other ≡ places_under old other ++ under_none place other
    all (Some other) = each other ∙ sym (append-nil (listed old.named other))
    all None = pushed

-- one row more
pub listed_more : (d : RawDescription) (old new : Index) (count : ℕ) (row : Row) → AreListed d count old → slice_get d.rows count ≡ Some row
    → IsAdded old new (first_name row.text) count → AreListed d (count + 1) new
listed_more d old new count row before at a i r lt e = by (earlier i lt)
  where
    earlier : (i : ℕ) → i < count + 1 → (i < count) ⊎ (i ≡ count)
    earlier i lt = grind (arith, lt)

    by : (i < count) ⊎ (i ≡ count) → Contains (places_under new (first_name r.text)) i
    by (inl less) = a.kept (first_name r.text) i (before i r less e)
    by (inr same) =
        subst (λ (k : ℕ). Contains (places_under new (first_name r.text)) k) (sym same)
        (subst (λ (x : Row). Contains (places_under new (first_name x.text)) count) (same_item row r (sym at ∙ ap (slice_get d.rows) (sym same) ∙ e)) a.is_there)

-- what the row at a place reads
pub at_row : (d : RawDescription) (ts : List Token) (place : ℕ) (row : Row) (o : Option (List Value)) → slice_get d.rows place ≡ Some row → IsRowRead d row ts o → IsReadAt d ts place o
at_row d ts place row None e r = λ other vs f k. r vs (subst (λ (x : Row). IsReading d x ts vs) (same_item other row (sym f ∙ e)) k)
at_row d ts place row (Some vs) e r = record { row = row; has = e; reading = r }

pub not_there : (row : Row) → None ≡ Some row → ⊥
not_there row e = cc
