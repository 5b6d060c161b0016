-- What is live in the code of a sound function.
use Rattle.std.proofs.Common.{◌≡◌, inl, inr, ℕ, zero, suc, ◌+◌, ◌*◌, ◌<◌, ◌≤◌, Bool, true, false, not, ◌||◌, List, [], ◌∷◌, ◌++◌, Option, Some, None, refl, sym, ap, ◌∙◌, arith}
use Rattle.std.specs.Prelude.{length, slice_get, nat_le}
use Rattle.std.specs.List.{list_all}
use Rattle.std.proofs.lemmas.List.{append_assoc, length-append}
use Rattle.c_tree.specs.declared.typed.Function.{Function}
use Rattle.c_tree.specs.declared.typed.Typed.{Typed}
use Rattle.c_limits.specs.Frames.{word_bytes, frame_bytes, is_helper}
use Rattle.c_meaning.specs.Run.{is_main}
use Rattle.naive_code.specs.Operations.{constant, load_home, set_result}
use Rattle.naive_code.specs.Storage.{scalar_count}
use Rattle.naive_code.specs.Functions.{entry_from, body_steps, ending, nowhere}
use Rattle.naive_run.specs.Sound.{is_scalar, left_of}
use Rattle.naive_live.specs.Live.{Lives}
use Rattle.naive_live.specs.Function.{numbered, depth_in, IsSoundFunction, FunctionLives, FunctionsLive}
use Rattle.naive_live.proofs.Lists.{within_same, fresh, At, at_as}
use Rattle.naive_live.proofs.Passing.{lives_then, first, only, comes_new, comes_scalar}
use Rattle.naive_live.proofs.Values.{deep_first, deep_second, marked_as}
use Rattle.naive_live.proofs.Storages.{both_so}
use Rattle.naive_live.proofs.Steps.{AreStacked}
use Rattle.naive_live.proofs.Statements.{body_lives}

-- ---- rows of numbers

numbered_at : (A : Type 0) (n k : ℕ) (xs : List A) → numbered n xs (n + k) ≡ slice_get xs k
numbered_at A zero k xs = let q : 0 + k ≡ k = omega arith in ap (λ (i : ℕ). slice_get xs i) q
numbered_at A (suc n) k xs = let q : suc n + k ≡ suc (n + k) = omega arith in ap (λ (i : ℕ). numbered (suc n) xs i) q ∙ numbered_at A n k xs

found : (A : Type 0) (xs ys : List A) (y : A) → slice_get (xs ++ y ∷ ys) (length xs) ≡ Some y
found A [] ys y = refl
found A (x ∷ xs) ys y = found A xs ys y

module _ (A : Type 0) (n : ℕ) (all : List A) where
  abbrev IsNumbered : ℕ → A → Type 0
  IsNumbered i x = numbered n all i ≡ Some x

  rest_numbered : (xs ys : List A) → all ≡ xs ++ ys → At A IsNumbered (n + length xs) ys
  rest_numbered xs [] e = tt
  rest_numbered xs (y ∷ ys) e =
      let long = length-append xs (y ∷ []) in
      let q : n + length (xs ++ y ∷ []) ≡ suc (n + length xs) = omega (arith, long) in (
        numbered_at A n (length xs) all ∙ (ap (λ (zs : List A). slice_get zs (length xs)) e ∙ found A xs ys y),
        at_as A IsNumbered (n + length (xs ++ y ∷ [])) (suc (n + length xs)) ys q (rest_numbered (xs ++ y ∷ []) ys (e ∙ sym (append_assoc xs (y ∷ []) ys))),
      )

  all_numbered : At A IsNumbered n all
  all_numbered = let q : n + 0 ≡ n = omega arith in at_as A IsNumbered (n + 0) n all q (rest_numbered [] all refl)

abbrev or_empty : Option (List ℕ) → List ℕ
or_empty None = []
or_empty (Some xs) = xs

-- what is live where the blocks of labels from one on begin
abbrev marks_from : ℕ → List (List ℕ) → ℕ → List ℕ
marks_from n marks l = or_empty (numbered n marks l)

all_marked : (n l : ℕ) (marks xs : List (List ℕ)) → At (List ℕ) (λ i x. numbered n marks i ≡ Some x) l xs → At (List ℕ) (λ i x. marks_from n marks i ≡ x) l xs
all_marked n l marks [] h = tt
all_marked n l marks (x ∷ xs) h = (ap or_empty h.0, all_marked n (suc l) marks xs h.1)

none_at_first : (n : ℕ) (marks : List (List ℕ)) → marks_from n ([] ∷ marks) 0 ≡ []
none_at_first zero marks = refl
none_at_first (suc n) marks = refl

-- ---- the begin and the end of a function

module _ (depth : ℕ → Option ℕ) (scalars : ℕ) (env : ℕ → List ℕ) where
  entry_lives : (bytes offset i n : ℕ) → i + n ≤ scalars → Lives depth scalars env [] (entry_from bytes offset i n) []
  entry_lives bytes offset i zero le = within_same []
  entry_lives bytes offset i (suc n) le =
      let lt : i < scalars = omega (arith, le) in let more : suc i + n ≤ scalars = omega (arith, le) in
      first depth scalars env (load_home i (offset + bytes * i)) (entry_from bytes offset (suc i) n) [] [] [] (refl, comes_scalar depth scalars env i [] lt) (entry_lives bytes offset (suc i) n more)

  ending_lives : (b : Bool) (t : ℕ) → depth t ≡ Some 0 → Lives depth scalars env [] (ending b t) []
  ending_lives false t e = within_same []
  ending_lives true t e =
      first depth scalars env (constant t 0) (set_result t ∷ []) [] (t ∷ []) [] (refl, comes_new depth scalars env t [] (fresh depth 0 t [] e tt))
      (only depth scalars env (set_result t) (t ∷ []) [] (refl, inr (inl refl), λ i k. absurd k))

-- ---- the whole

module _ (kept : List ℕ) (w : ℕ) (t : Typed) (f : Function) (so : IsSoundFunction kept w t f) where
  abbrev parts : ((left_of w t f f.body).sound ≡ true) × (list_all is_scalar f.params ≡ true)
  parts =
      let body = left_of w t f f.body in
      let p = both_so _ (not (is_helper f.name) || nat_le (frame_bytes kept w f + word_bytes w) 256) so.sound in
      let q = both_so _ (not (is_main f) || nat_le (length f.params) 0) p.0 in
      let r = both_so _ (list_all is_scalar f.params) q.0 in
      let s = both_so _ (not body.continues) r.0 in
      let z = both_so body.sound (not body.breaks) s.0 in (z.0, r.1)

  abbrev depths : List ℕ
  depths = (body_steps kept w t f).depths ++ 0 ∷ []

  pub body_stacked : AreStacked (depth_in kept w t f) (scalar_count f) (body_steps kept w t f)
  body_stacked = body_lives kept w t f (depth_in kept w t f) parts.1 f.body so.meant parts.0

  function_lives : (pushed label : ℕ) → FunctionLives kept w pushed t f label
  function_lives pushed label =
      let depth = depth_in kept w t f in let scalars = scalar_count f in let body = body_steps kept w t f in
      let deep = all_numbered ℕ scalars depths in
      let x = body_stacked.each scalars (label + 1) (deep_first depth scalars scalars body.depths (0 ∷ []) deep) in
      let last = deep_second depth scalars scalars body.temps body.depths (0 ∷ []) body_stacked.many deep in
      let marks = [] ∷ x.marks in
      let env = marks_from label marks in
      let marked = all_marked label label marks marks (all_numbered (List ℕ) label marks) in
      let next : suc label ≡ label + 1 = omega arith in
      let none = none_at_first label x.marks in
      let few : 0 + length f.params ≤ scalars = omega arith in
      let begin = entry_from (word_bytes w) (frame_bytes kept w f + pushed) 0 (length f.params) in
      let ops = body.ops nowhere scalars (label + 1) in
      let end = ending (is_main f) (scalars + body.temps) in
      record {
        at_label = env;
        first = marked.0;
        lives =
            lives_then depth scalars env begin (ops ++ end) [] [] [] (entry_lives depth scalars env (word_bytes w) (frame_bytes kept w f + pushed) 0 (length f.params) few)
            (lives_then depth scalars env ops end [] [] []
            (x.lives env nowhere (marked_as depth scalars env (suc label) (label + 1) x.marks next marked.1) none none)
            (ending_lives depth scalars env (is_main f) (scalars + body.temps) last.0));
      }

pub functions_live : FunctionsLive
functions_live kept w pushed t f label so = function_lives kept w t f so pushed label
