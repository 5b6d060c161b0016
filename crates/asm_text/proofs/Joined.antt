-- A program is that of a text, part by part.
use Rattle.std.proofs.Common.{◌≡◌, ◌≢◌, ℕ, zero, suc, ◌+◌, ◌<◌, ◌≤◌, ◌↔◌, ◌⊎◌, inl, inr, true, List, [], ◌∷◌, ◌++◌, length, map, get_or, Option, Some, None, slice_get, Contains, refl, sym, ap, subst, ◌∙◌, arith}
use Rattle.std.specs.List.{AllZip}
use Rattle.std.proofs.lemmas.List.Elements.{Contains-append_right, Contains-append_cases}
use Rattle.rtl_tree.specs.declared.c_names.Names.{Names}
use Rattle.rtl_tree.specs.declared.cells.Lab.{Lab}
use Rattle.rtl_tree.specs.declared.cells.Lab.TheVariants as lab
use Rattle.rtl_value.specs.declared.state.LabelAt.{LabelAt}
use Rattle.md_rows.specs.declared.description.RawDescription.{RawDescription}
use Rattle.asm_program.specs.declared.places.Part.{Part}
use Rattle.asm_program.specs.declared.places.Part.TheVariants.{Outside, InText, InData}
use Rattle.asm_program.specs.TextLines.{Label, Block, Symbol, Said, Nothing, Unreadable, TextBegins, DataBegins, Labelled, Mislabelled, Word, Byte, Space, Others}
use Rattle.asm_program.specs.Places.{Position, start, after, part_after}
use Rattle.asm_program.specs.Rules.{Walks, word_bytes}
use Rattle.asm_program.specs.Programs.{Assembled, IsLab, HasLabel, bytes_after, data_part, object_of, objects_from}
use Rattle.asm_names.specs.LabelNames.{label_name, names_in, taken}
use Rattle.asm_jumps.specs.LabelPlaces.{IsAt}
use Rattle.asm_text.proofs.DataPart.{begins_in_text, still_text}

pub zip_weaker : {A B : Type 0} (P Q : A → B → Type 0) → ((a : A) (b : B) → P a b → Q a b) → (xs : List A) (ys : List B) → AllZip P xs ys → AllZip Q xs ys
zip_weaker P Q f [] [] z = tt
zip_weaker P Q f [] (y ∷ ys) z = absurd z
zip_weaker P Q f (x ∷ xs) [] z = absurd z
zip_weaker P Q f (x ∷ xs) (y ∷ ys) z = (f x y z.0, zip_weaker P Q f xs ys z.1)

pub contains_first : {A : Type 0} (x : A) (xs : List A) → Contains (x ∷ xs) x
contains_first x xs = (0, omega arith, refl)

pub contains_none : {A : Type 0} (x : A) → Contains [] x → ⊥
contains_none x c = let h = c.1 in omega (arith, h)

pub only : {A : Type 0} (y x : A) → Contains (y ∷ []) x → y ≡ x
only {A} y x c = by_index c.0 c.1 c.2
  where
    by_index : (k : ℕ) → k < 1 → get_or (y ∷ []) k x ≡ x → y ≡ x
    by_index zero h e = e
    by_index (suc k) h e = absurd (omega arith)

-- a label with a number is one label alone
pub one_label : (n : Names) (l k : Label) (t : Lab) → IsLab n l t → IsLab n k t → l ≡ k
one_label n (Block a) (Block b) t e f = ap Block (same a b (sym e ∙ f))
  where
    same : (x y : ℕ) → lab.Block x ≡ lab.Block y → x ≡ y
    same x y e = cc
one_label n (Block a) (Symbol s) t e f = absurd (other t e f)
  where
    other : (t : Lab) → t ≡ lab.Block a → IsLab n (Symbol s) t → ⊥
    other (lab.Block x) e f = f
    other (lab.Function x) e f = cc
one_label n (Symbol r) (Block b) t e f = absurd (other t f e)
  where
    other : (t : Lab) → t ≡ lab.Block b → IsLab n (Symbol r) t → ⊥
    other (lab.Block x) e f = f
    other (lab.Function x) e f = cc
one_label n (Symbol r) (Symbol s) t e f = ap Symbol (other t e f)
  where
    same : (x y : List ℕ) → Some x ≡ Some y → x ≡ y
    same x y e = cc

    other : (t : Lab) → IsLab n (Symbol r) t → IsLab n (Symbol s) t → r ≡ s
    other (lab.Block x) e f = absurd e
    other (lab.Function x) e f = same r s (sym e ∙ f)

module _ (n : Names) where
  pub record Beside (es : List (Label × ℕ)) (l : LabelAt) : Type 0 where
    pub entry : Label × ℕ
    pub has : Contains es entry
    pub is : IsAt n entry l

  pub record Above (ls : List LabelAt) (e : Label × ℕ) : Type 0 where
    pub label : LabelAt
    pub has : Contains ls label
    pub is : IsAt n e label

  pub beside : (es : List (Label × ℕ)) (ls : List LabelAt) (l : LabelAt) → AllZip (IsAt n) es ls → Contains ls l → Beside es l
  beside [] [] l z c = absurd (contains_none l c)
  beside [] (k ∷ ls) l z c = absurd z
  beside (e ∷ es) [] l z c = absurd z
  beside (e ∷ es) (k ∷ ls) l z c = pick (λ d. beside es ls l z.1 d) (Contains-append_cases (k ∷ []) ls l c)
    where
      pick : (Contains ls l → Beside es l) → Contains (k ∷ []) l ⊎ Contains ls l → Beside (e ∷ es) l
      pick f (inl d) = record { entry = e; has = contains_first e es; is = subst (IsAt n e) (only k l d) z.0 }
      pick f (inr d) = let r = f d in record { entry = r.entry; has = Contains-append_right (e ∷ []) es r.entry r.has; is = r.is }

  pub above : (es : List (Label × ℕ)) (ls : List LabelAt) (e : Label × ℕ) → AllZip (IsAt n) es ls → Contains es e → Above ls e
  above [] [] e z c = absurd (contains_none e c)
  above [] (k ∷ ls) e z c = absurd (contains_none e c)
  above (g ∷ es) [] e z c = absurd z
  above (g ∷ es) (k ∷ ls) e z c = pick (λ d. above es ls e z.1 d) (Contains-append_cases (g ∷ []) es e c)
    where
      pick : (Contains es e → Above ls e) → Contains (g ∷ []) e ⊎ Contains es e → Above (k ∷ ls) e
      pick f (inl d) = record { label = k; has = contains_first k ls; is = subst (λ (x : Label × ℕ). IsAt n x k) (only g e d) z.0 }
      pick f (inr d) = let r = f d in record { label = r.label; has = Contains-append_right (k ∷ []) ls r.label r.has; is = r.is }

-- the labels of a program are those of the text part
pub has_labels : (p : Assembled) (es : List (Label × ℕ)) → AllZip (IsAt p.names) es p.labels → (l : Label) (at : ℕ) → HasLabel p l at ↔ Contains es (l, at)
has_labels p es z l at = (to, from)
  where
    to : HasLabel p l at → Contains es (l, at)
    to h =
        let b = beside p.names es p.labels (record { label = h.label; at = at }) z h.has in
        let same : l ≡ b.entry.0 = one_label p.names l b.entry.0 h.label h.is_label b.is.label in
        subst (λ (k : Label). Contains es (k, at)) (sym same) (subst (λ (m : ℕ). Contains es (b.entry.0, m)) (sym b.is.at) b.has)

    from : Contains es (l, at) → HasLabel p l at
    from c =
        let a = above p.names es p.labels (l, at) z c in
        record { label = a.label.label; is_label = a.is.label; has = subst (λ (m : ℕ). Contains p.labels (record { label = a.label.label; at = m })) a.is.at a.has }

-- the names of objects stand beside their addresses

module _ (base wb : ℕ) where
  pub names_are : (bytes : List ℕ) (ss : List Said) → names_in InData InData ss ≡ map (λ o. o.0) (objects_from base wb bytes ss)
  names_are bytes [] = refl
  names_are bytes (Labelled (Symbol s) ∷ ss) = ap (λ (xs : List (List ℕ)). s ∷ xs) (names_are (bytes_after wb bytes (Labelled (Symbol s))) ss)
  names_are bytes (Labelled (Block b) ∷ ss) = names_are (bytes_after wb bytes (Labelled (Block b))) ss
  names_are bytes (Nothing ∷ ss) = names_are (bytes_after wb bytes Nothing) ss
  names_are bytes (Unreadable ∷ ss) = names_are (bytes_after wb bytes Unreadable) ss
  names_are bytes (TextBegins ∷ ss) = names_are (bytes_after wb bytes TextBegins) ss
  names_are bytes (DataBegins ∷ ss) = names_are (bytes_after wb bytes DataBegins) ss
  names_are bytes (Mislabelled ∷ ss) = names_are (bytes_after wb bytes Mislabelled) ss
  names_are bytes (Word z ∷ ss) = names_are (bytes_after wb bytes (Word z)) ss
  names_are bytes (Byte z ∷ ss) = names_are (bytes_after wb bytes (Byte z)) ss
  names_are bytes (Space z ∷ ss) = names_are (bytes_after wb bytes (Space z)) ss
  names_are bytes (Others ts ∷ ss) = names_are (bytes_after wb bytes (Others ts)) ss
