-- The search for the end of a comment, a byte at a time.
use Rattle.std.proofs.Common.{◌≡◌, ℕ, suc, ◌+◌, ◌<◌, ◌≤◌, Bool, true, false, List, [], ◌∷◌, Option, Some, None, length, drop, get_or, refl, sym, ap, ◌∙◌, arith, add-one}
use Rattle.std.specs.Prelude.{if◌then◌else◌}
use Rattle.std.specs.Option.{option_map}
use Rattle.std.proofs.Math.Seq.{drop-cons}
use Rattle.std.proofs.lemmas.List.{drop_all}
use Rattle.c_lexer.specs.Pieces.{is_close, close_at}

-- nothing is found in the first k bytes
pub record NoneBefore (bytes : List ℕ) (k : ℕ) : Type 0 where
  pub same : close_at bytes ≡ option_map (λ n. k + n) (close_at (drop k bytes))

step : (bytes : List ℕ) (k : ℕ) → k < length bytes →
    close_at (drop k bytes) ≡ (if is_close (drop k bytes) then Some 0 else option_map suc (close_at (drop (suc k) bytes)))
step bytes k h = rw (drop-cons bytes k 0) refl

shifted : (k : ℕ) (o : Option ℕ) → option_map (λ n. k + n) (option_map suc o) ≡ option_map (λ n. (k + 1) + n) o
shifted k None = refl
shifted k (Some n) = let e : k + suc n ≡ (k + 1) + n = omega arith in ap (λ m. Some m) e

pub none_more : (bytes : List ℕ) (k : ℕ) → k < length bytes → NoneBefore bytes k → is_close (drop k bytes) ≡ false → NoneBefore bytes (k + 1)
none_more bytes k h so_far fails = record {
  same =
      so_far.same ∙ ap (option_map (λ n. k + n)) (step bytes k h ∙ rw fails refl)
      ∙ shifted k (close_at (drop (suc k) bytes)) ∙ rw add-one refl;
}

pub found_at : (bytes : List ℕ) (k : ℕ) → k < length bytes → NoneBefore bytes k → is_close (drop k bytes) ≡ true → close_at bytes ≡ Some k
found_at bytes k h so_far passes =
    let here : close_at (drop k bytes) ≡ Some 0 = step bytes k h ∙ rw passes refl in
    let sum : k + 0 ≡ k = omega arith in
    so_far.same ∙ rw here (ap (λ m. Some m) sum)

pub none_first : (bytes : List ℕ) → NoneBefore bytes 0
none_first bytes = record { same = lemma (close_at bytes) }
  where
    lemma : (o : Option ℕ) → o ≡ option_map (λ n. 0 + n) o
    lemma None = refl
    lemma (Some n) = let e : n ≡ 0 + n = omega arith in ap (λ m. Some m) e

past : (bytes : List ℕ) (k : ℕ) → length bytes ≤ k → drop k bytes ≡ []
past bytes k h = drop_all k bytes h

pub none_found : (bytes : List ℕ) (k : ℕ) → length bytes ≤ k → NoneBefore bytes k → close_at bytes ≡ None
none_found bytes k h so_far = so_far.same ∙ rw (past bytes k h) refl
