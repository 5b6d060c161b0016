-- Entries by name.
use Rattle.std.proofs.Common.{◌≡◌, ◌≢◌, ℕ, zero, suc, ◌<◌, ◌≤◌, ◌^◌, List, [], ◌∷◌, ◌++◌, length, take, drop, get_or, set, Option, Some, None, Bool, true, false, sym, ap, ◌∙◌, subst, refl, arith}
use Rattle.std.specs.Prelude.{position, option_map, unwrap_or, nat_lt, if◌then◌else◌}
use Rattle.std.specs.List.{position_or_len, slice_get}
use Rattle.std.proofs.Math.Path.{fun_ext}
use Rattle.std.proofs.Math.Seq.{take-append_seam}
use Rattle.std.proofs.lemmas.Bool.{ltb-true, ltb-false}
use Rattle.std.proofs.lemmas.Option.{cond_some, none-some, slice_get_past, slice_get-get_or}
use Rattle.std.proofs.lemmas.List.Folds.{find_at, find-set, find_past}
use Rattle.std.proofs.lemmas.List.Sums.{passes_at_first}
use Rattle.std.proofs.lemmas.Slice.Eq.{bytes_eq-Decides}
use Rattle.vp_io.specs.declared.memory_files.MemFile.{MemFile}
use Rattle.vp_io.specs.Counts.{next_count}
use Rattle.vp_io.specs.Files.{Gives, CountsOnly}
use Rattle.vp_io.specs.MemoryFiles.{has_name, entry_of, bytes_of, faults_of, CountsFault}

-- the place of the first entry that passes
pub place_is : (p : MemFile → Bool) (es : List MemFile) (i : ℕ) → position p es ≡ Some i → (position_or_len p es ≡ i) × (i < length es)
place_is p es i e =
    let both = cond_some _ (position_or_len p es) i e in
    (both.1, subst (λ k. k < length es) both.1 (ltb-true _ _ both.0))

-- the entry at the place of a name is the name's entry
pub entry_at : (es : List MemFile) (name : List ℕ) (i : ℕ) (d : MemFile) → position (has_name name) es ≡ Some i → entry_of es name ≡ Some (get_or es i d)
entry_at es name i d e =
    let at = place_is (has_name name) es i e in
    find_at (has_name name) es
    ∙ slice_get-get_or es (position_or_len (has_name name) es) d (subst (λ k. k < length es) (sym at.0) at.1)
    ∙ ap (λ k. Some (get_or es k d)) at.0

-- a name without a place has no entry
pub entry_none : (es : List MemFile) (name : List ℕ) → position (has_name name) es ≡ None → entry_of es name ≡ None
entry_none es name e = find_at (has_name name) es ∙ past (nat_lt (position_or_len (has_name name) es) (length es)) refl e
  where
    past : (b : Bool) → b ≡ nat_lt (position_or_len (has_name name) es) (length es) → (if b then Some (position_or_len (has_name name) es) else None) ≡ None → slice_get es (position_or_len (has_name name) es) ≡ None
    past true is e = absurd (none-some _ (sym e))
    past false is e = slice_get_past es (position_or_len (has_name name) es) (ltb-false _ _ (sym is))

-- the entry at the place of a name has that name
pub name_at : (es : List MemFile) (name : List ℕ) (i : ℕ) (d : MemFile) → position (has_name name) es ≡ Some i → has_name name (get_or es i d) ≡ true
name_at es name i d e =
    let at = place_is (has_name name) es i e in
    subst (λ k. has_name name (get_or es k d) ≡ true) at.0 (passes_at_first (has_name name) es d (subst (λ k. k < length es) (sym at.0) at.1))

-- another count leaves the bytes under each name
bytes_kept : (es : List MemFile) (i k : ℕ) (fits : k < 2 ^ 64) (d : MemFile) (name : List ℕ) → bytes_of (set es i (record { name = (get_or es i d).name; bytes = (get_or es i d).bytes; absent = (get_or es i d).absent; faults = k; faults_fit = fits })) name ≡ bytes_of es name
bytes_kept [] i k fits d name = refl
bytes_kept (f ∷ es) zero k fits d name = by (has_name name f)
  where
    by : (b : Bool) → unwrap_or (option_map (λ file. file.bytes.items) (if b then Some (record { name = f.name; bytes = f.bytes; absent = f.absent; faults = k; faults_fit = fits }) else entry_of es name)) [] ≡ unwrap_or (option_map (λ file. file.bytes.items) (if b then Some f else entry_of es name)) []
    by true = refl
    by false = refl
bytes_kept (f ∷ es) (suc i) k fits d name = by (has_name name f) (bytes_kept es i k fits d name)
  where
    by : (b : Bool) → bytes_of (set es i (record { name = (get_or es i d).name; bytes = (get_or es i d).bytes; absent = (get_or es i d).absent; faults = k; faults_fit = fits })) name ≡ bytes_of es name → unwrap_or (option_map (λ file. file.bytes.items) (if b then Some f else entry_of (set es i (record { name = (get_or es i d).name; bytes = (get_or es i d).bytes; absent = (get_or es i d).absent; faults = k; faults_fit = fits })) name)) [] ≡ unwrap_or (option_map (λ file. file.bytes.items) (if b then Some f else entry_of es name)) []
    by true rest = refl
    by false rest = rest

not_true : (b : Bool) → (b ≡ true → ⊥) → b ≡ false
not_true true refuted = absurd (refuted refl)
not_true false _ = refl

-- an entry has no other name
other_name : (name other : List ℕ) (f : MemFile) → other ≢ name → has_name name f ≡ true → has_name other f ≡ false
other_name name other f ne is =
    not_true (has_name other f) (λ also. ne (sym ((bytes_eq-Decides f.name.items other).0 also) ∙ (bytes_eq-Decides f.name.items name).0 is))

-- one more at the place of a name counts a fault of that name
pub counts_fault : (es : List MemFile) (name : List ℕ) (i k : ℕ) (fits : k < 2 ^ 64) (d : MemFile) → position (has_name name) es ≡ Some i → k ≡ next_count (get_or es i d).faults → (get_or es i d).faults ≤ k → CountsFault name es (set es i (record { name = (get_or es i d).name; bytes = (get_or es i d).bytes; absent = (get_or es i d).absent; faults = k; faults_fit = fits }))
counts_fault es name i k fits d e is le =
    let at = place_is (has_name name) es i e in
    let named = name_at es name i d e in
    let new : MemFile = record { name = (get_or es i d).name; bytes = (get_or es i d).bytes; absent = (get_or es i d).absent; faults = k; faults_fit = fits } in
    let was : faults_of es name ≡ (get_or es i d).faults = ap (λ o. unwrap_or (option_map (λ file. file.faults) o) 0) (entry_at es name i d e) in
    let now : faults_of (set es i new) name ≡ k = ap (λ o. unwrap_or (option_map (λ file. file.faults) o) 0) (find-set (has_name name) es i new (sym at.0) at.1 named) in
    record {
      bytes = fun_ext (λ other. bytes_kept es i k fits d other);
      later = subst (λ n. n ≤ faults_of (set es i new) name) (sym was) (subst (λ n. (get_or es i d).faults ≤ n) (sym now) le);
      of_name = now ∙ is ∙ ap next_count (sym was);
      others = λ other ne. ap (λ o. unwrap_or (option_map (λ file. file.faults) o) 0) (find_past (has_name other) es i _ d (other_name name other (get_or es i d) ne named) (other_name name other (get_or es i d) ne named));
    }

-- the bytes of a name are those of the entry at its place
pub bytes_at : (es : List MemFile) (name : List ℕ) (i : ℕ) (d : MemFile) → position (has_name name) es ≡ Some i → bytes_of es name ≡ (get_or es i d).bytes.items
bytes_at es name i d e = ap (λ o. unwrap_or (option_map (λ file. file.bytes.items) o) []) (entry_at es name i d e)

-- a name without a place has no bytes
pub bytes_none : (es : List MemFile) (name : List ℕ) → position (has_name name) es ≡ None → bytes_of es name ≡ []
bytes_none es name e = ap (λ o. unwrap_or (option_map (λ file. file.bytes.items) o) []) (entry_none es name e)

-- nothing is given of a name without a place
pub gives_none : (es : List MemFile) (name : List ℕ) (at : ℕ) (into : List ℕ) → position (has_name name) es ≡ None → Gives (bytes_of es name) at 0 into
gives_none es name at into e = record { bytes = refl; end = λ _. omega (arith, ap length (bytes_none es name e)) }

-- the same place, by equal names and entries
pub same_place : (es es' : List MemFile) (name name' : List ℕ) (found place : Option ℕ) → found ≡ position (has_name name') es' → name' ≡ name → es' ≡ es → found ≡ place → position (has_name name) es ≡ place
same_place es es' name name' found place is names entries at =
    sym (is ∙ ap (λ n. position (has_name n) es') names ∙ ap (λ l. position (has_name name) l) entries) ∙ at

-- a fault that was counted in the entries of a vector moves the counts of that name alone
pub counts_only : (es new : List MemFile) (len : ℕ) (name : List ℕ) (before now : ℕ) → length new ≡ len → before ≤ now → CountsFault name es new → CountsOnly name (record { total = before; of = faults_of es }) (record { total = now; of = faults_of (take len (new ++ drop (length new) es)) })
counts_only es new len name before now is le counted =
    let back : new ≡ take len (new ++ drop (length new) es) = sym (take-append_seam new (drop (length new) es)) ∙ ap (λ n. take n (new ++ drop (length new) es)) is in
    record {
      total = le;
      of_name = subst (λ l. faults_of es name ≤ faults_of l name) back counted.later;
      others = λ other ne. subst (λ l. faults_of l other ≡ faults_of es other) back (counted.others other ne);
    }
