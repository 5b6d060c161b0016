-- The reading answers what is spelled, or where the fault is.
use Rattle.std.proofs.Common.{◌≡◌, ℕ, zero, suc, ◌+◌, ◌-◌, ◌≤◌, ◌<◌, Bool, true, false, List, [], ◌∷◌, ◌++◌, length, Option, Some, None, Ok, Err, refl, sym, ap, subst, ◌∙◌, append_assoc, arith, inl, inr}
use Rattle.std.specs.Prelude.{◌⊎◌, cond, nat_lt, ◌&&◌, drop, take}
use Rattle.std.specs.Option.{is_none}
use Rattle.std.proofs.lemmas.List.{append-nil, length-append, length-take, length-map, take-append-drop, append_cancel_right}
use Rattle.std.proofs.Math.Seq.{drop-append_seam}
use Rattle.std.proofs.lemmas.Bool.{and_parts, and_from, ltb-true, lt-ltb, leb-false, cases_lt, cases_order}
use Rattle.rtl_tree.specs.Trees.{Tree}
use Rattle.rtl_spelling.specs.declared.signs.Sign.{Sign}
use Rattle.rtl_spelling.specs.declared.signs.Sign.TheVariants as sign
use Rattle.rtl_spelling.specs.Tokens.{Token, Word, Number, Mark}
use Rattle.rtl_spelling.specs.Holes.{leaf_named}
use Rattle.rtl_spelling.specs.Spelling.{Context, IsContext, Placed, tokens_in, Said, SpellsTransfer, IsSpelled}
use Rattle.rtl_spelling.specs.Faults.{Begins, IsNameOfUnknown, BadFormAt, unexpected, unknown_hole, TooDeepAt}
use Rattle.rtl_spelling.specs.Law.{IsEnded, FormFaultLeaves, Answers}
use Rattle.rtl_spelling.specs.Reading.{Read, Wrong, Deep, ◌>>=◌, gives, deep, is_sign, is_unknown, is_unknown_hole, last_tokens, answer, reading, transfer, has_holes}
use Rattle.rtl_spelling.proofs.Automaton.{Symbol, ATree, Inside, Operator, Tested, AfterRelation, Exactly, Index, HoleName, Place, Value, After, Stack, Step, below, on_found, step, start, stands, some_step, new_of, follow}
use Rattle.rtl_spelling.proofs.Follow.{transfer_is}
use Rattle.rtl_spelling.proofs.Runs.{Run, run_append, transfer_run}
use Rattle.rtl_spelling.proofs.Traces.{Within, Trace, through, stopped, at_end, too_deep, traced, run_followed, deep_followed, run_alike}
use Rattle.rtl_spelling.proofs.Completion.{MayStand, AllMay, run_may, start_may}
use Rattle.rtl_spelling.proofs.Says.{is_sign_is}
use Rattle.rtl_spelling.proofs.Sound.{Transferred, transfer_spelled}
use Rattle.rtl_spelling.proofs.Complete.{transfer_reads}
use Rattle.rtl_spelling.proofs.Ends.{Bodied, transfer_ended, one_end, tokens_append}
use Rattle.rtl_spelling.proofs.Depths.{next_shallow}
use Rattle.rtl_spelling.proofs.Begun.{within_from, within_to, run_split, split_tokens, Begun, begun, run_begins, begins_run, stops, fewer_begin}

abbrev Tokens : Type 0
Tokens = List Token

-- ---- the ways of the automaton, by their ends

record Through (c : Context) (most : ℕ) (s : Stack) (ts us : Tokens) : Type 0 where
  pub placed : List Placed
  pub split : ts ≡ tokens_in placed ++ us
  pub run : Run c s placed []
  pub within : Within most placed

record Stopped (c : Context) (most : ℕ) (s : Stack) (ts : Tokens) (n : ℕ) : Type 0 where
  pub placed : List Placed
  pub symbol : Symbol
  pub below : Stack
  pub at : Token
  pub rest : Tokens
  pub split : ts ≡ tokens_in placed ++ at ∷ rest
  pub run : Run c s placed (symbol ∷ below)
  pub within : Within most placed
  pub none : step c symbol at ≡ None
  pub left : length (at ∷ rest) ≡ n

record Unfinished (c : Context) (s : Stack) (ts : Tokens) : Type 0 where
  pub placed : List Placed
  pub symbol : Symbol
  pub below : Stack
  pub split : ts ≡ tokens_in placed
  pub run : Run c s placed (symbol ∷ below)

record Deepened (c : Context) (most : ℕ) (s : Stack) (ts : Tokens) (n : ℕ) : Type 0 where
  pub placed : List Placed
  pub symbol : Symbol
  pub below : Stack
  pub new : Stack
  pub depth : ℕ
  pub at : Token
  pub rest : Tokens
  pub split : ts ≡ tokens_in placed ++ at ∷ rest
  pub run : Run c s placed (symbol ∷ below)
  pub within : Within most placed
  pub goes : step c symbol at ≡ Some (depth, new)
  pub below_not : stands most depth ≡ false
  pub left : length (at ∷ rest) ≡ n

abbrev pub Followed : Type 0
Followed = Read (Unit {0})

abbrev rest_in : Followed → Tokens
rest_in (Ok x) = x.1
rest_in (Err e) = []

abbrev pub count_in : Followed → ℕ
count_in (Ok x) = 0
count_in (Err (Wrong n)) = n
count_in (Err (Deep n)) = n

through_of : (c : Context) (most : ℕ) (s : Stack) (ts us : Tokens) (a : Followed) → Trace c most s ts a → a ≡ gives tt us → Through c most s ts us
through_of c most s ts us _ (through ps vs split run within) e =
    record { placed = ps; split = split ∙ ap (λ l. tokens_in ps ++ l) (ap rest_in e); run = run; within = within }
through_of c most s ts us _ (stopped ps x r t vs split run within none) e = absurd cc
through_of c most s ts us _ (at_end ps x r split run within) e = absurd cc
through_of c most s ts us _ (too_deep ps x r new d t vs split run within goes under) e = absurd cc

abbrev pub wrong_at : ℕ → Followed
wrong_at n = Err (Wrong n)

abbrev pub deep_at : ℕ → Followed
deep_at n = Err (Deep n)

wrong_of : (c : Context) (most : ℕ) (s : Stack) (ts : Tokens) (n : ℕ) (a : Followed) → Trace c most s ts a → a ≡ wrong_at n → Stopped c most s ts n ⊎ Unfinished c s ts
wrong_of c most s ts n _ (through ps vs split run within) e = absurd cc
wrong_of c most s ts n _ (stopped ps x r t vs split run within none) e =
    inl (record { placed = ps; symbol = x; below = r; at = t; rest = vs; split = split; run = run; within = within; none = none; left = ap count_in e })
wrong_of c most s ts n _ (at_end ps x r split run within) e = inr (record { placed = ps; symbol = x; below = r; split = split; run = run })
wrong_of c most s ts n _ (too_deep ps x r new d t vs split run within goes under) e = absurd cc

deep_of : (c : Context) (most : ℕ) (s : Stack) (ts : Tokens) (n : ℕ) (a : Followed) → Trace c most s ts a → a ≡ deep_at n → Deepened c most s ts n
deep_of c most s ts n _ (through ps vs split run within) e = absurd cc
deep_of c most s ts n _ (stopped ps x r t vs split run within none) e = absurd cc
deep_of c most s ts n _ (at_end ps x r split run within) e = absurd cc
deep_of c most s ts n _ (too_deep ps x r new d t vs split run within goes under) e =
    record { placed = ps; symbol = x; below = r; new = new; depth = d; at = t; rest = vs; split = split; run = run; within = within; goes = goes; below_not = under; left = ap count_in e }

-- ---- lists

pub last_is : (front tail : Tokens) → last_tokens (length tail) (front ++ tail) ≡ tail
last_is front tail =
    let n : length (front ++ tail) - length tail ≡ length front = omega (arith, length-append front tail) in
    rw n (drop-append_seam front tail)

-- of two fronts of one list the shorter is a front of the longer
pub record Middle (a b xs ys : Tokens) : Type 0 where
  pub middle : Tokens
  pub longer : b ≡ a ++ middle
  pub behind : xs ≡ middle ++ ys

pub middle_of : (a b xs ys : Tokens) → a ++ xs ≡ b ++ ys → length a ≤ length b → Middle a b xs ys
middle_of [] b xs ys e le = record { middle = b; longer = refl; behind = e }
middle_of (x ∷ a) [] xs ys e le = absurd (omega (arith, le))
middle_of (x ∷ a) (y ∷ b) xs ys e le =
    let rest : a ++ xs ≡ b ++ ys = cc in
    let head : y ≡ x = cc in
    let r = middle_of a b xs ys rest (omega (arith, le)) in
    record { middle = r.middle; longer = λ i. head i ∷ r.longer i; behind = r.behind }

record HoleFront (c : Context) (ts : Tokens) : Type 0 where
  pub name : List ℕ
  pub rest : Tokens
  pub is : ts ≡ Mark sign.Less ∷ Word name ∷ Mark sign.Greater ∷ rest
  pub unknown : leaf_named c.holes name ≡ None

none_is : (o : Option Tree) → is_none o ≡ true → o ≡ None
none_is None e = refl
none_is (Some x) e = absurd cc

hole_word : (c : Context) (t u v : Token) (ts : Tokens) → t ≡ Mark sign.Less → is_unknown c u ≡ true → v ≡ Mark sign.Greater → HoleFront c (t ∷ u ∷ v ∷ ts)
hole_word c t (Word name) v ts e h f =
    record { name = name; rest = ts; is = λ i. e i ∷ Word name ∷ f i ∷ ts; unknown = none_is (leaf_named c.holes name) h }
hole_word c t (Number bs) v ts e h f = absurd cc
hole_word c t (Mark s) v ts e h f = absurd cc

hole_front : (c : Context) (ts : Tokens) → is_unknown_hole c ts ≡ true → HoleFront c ts
hole_front c [] h = absurd cc
hole_front c (t ∷ []) h = let p = and_parts (is_sign sign.Less t) _ h in absurd (let n : false ≡ true = p.1 in cc)
hole_front c (t ∷ (u ∷ [])) h =
    let p = and_parts (is_sign sign.Less t) _ h in
    let q = and_parts (is_unknown c u) _ p.1 in absurd (let n : false ≡ true = q.1 in cc)
hole_front c (t ∷ (u ∷ (v ∷ ts))) h =
    let p = and_parts (is_sign sign.Less t) (is_unknown c u && is_sign sign.Greater v) h in
    let q = and_parts (is_unknown c u) (is_sign sign.Greater v) p.1 in
    hole_word c t u v ts (is_sign_is sign.Less t p.0) q.0 (is_sign_is sign.Greater v q.1)

front_hole : (c : Context) (name : List ℕ) (rest : Tokens) → leaf_named c.holes name ≡ None → is_unknown_hole c (Mark sign.Less ∷ Word name ∷ Mark sign.Greater ∷ rest) ≡ true
front_hole c name rest e = rw e refl

-- ---- a hole that isn't open is passed nowhere

abbrev head_symbol : Stack → Symbol
head_symbol [] = After
head_symbol (x ∷ s) = x

record ExpectsName (new : Stack) : Type 0 where
  pub more : Stack
  pub is : new ≡ HoleName ∷ more

abbrev holed : ℕ → Bool → Step
holed d b = cond b (Some (d, HoleName ∷ Exactly sign.Greater ∷ [])) None

on_holes : (b : Bool) (d e : ℕ) (new : Stack) → holed d b ≡ some_step e new → ExpectsName new
on_holes true d e new h = record { more = Exactly sign.Greater ∷ []; is = sym (ap new_of h) }
on_holes false d e new h = absurd cc

below_holes : (b : Bool) (s : Stack) (d e : ℕ) (new : Stack) → below s (holed d b) ≡ some_step e new → ExpectsName new
below_holes true s d e new h = record { more = Exactly sign.Greater ∷ s; is = sym (ap new_of h) }
below_holes false s d e new h = absurd cc

no_sign : (c : Context) (g : Sign) (e : ℕ) (new : Stack) → MayStand c (Exactly g) → step c (Exactly g) (Mark sign.Less) ≡ Some (e, new) → ExpectsName new
no_sign c sign.Less e new m h = absurd m
no_sign c _ e new m h = absurd cc

less_step : (c : Context) (x : Symbol) (e : ℕ) (new : Stack) → MayStand c x → step c x (Mark sign.Less) ≡ Some (e, new) → ExpectsName new
less_step c (ATree d) e new m h = on_holes (has_holes c.holes) d e new h
less_step c (Inside d) e new m h = below_holes (has_holes c.holes) (Exactly sign.Space ∷ Operator d ∷ []) (suc d) e new h
less_step c (Operator d) e new m h = absurd cc
less_step c (Tested d) e new m h = absurd cc
less_step c (AfterRelation d) e new m h = absurd cc
less_step c (Exactly g) e new m h = no_sign c g e new m h
less_step c (Index b) e new m h = absurd cc
less_step c HoleName e new m h = absurd cc
less_step c Place e new m h = on_holes (has_holes c.holes) 1 e new h
less_step c Value e new m h = on_holes (has_holes c.holes) 1 e new h
less_step c After e new m h = absurd cc

name_run : (c : Context) (s r : Stack) (q : Placed) (qs : List Placed) (name : List ℕ) → ExpectsName s → q.token ≡ Word name → leaf_named c.holes name ≡ None → Run c s (q ∷ qs) r → ⊥
name_run c [] r q qs name x e u h = absurd h
name_run c (y ∷ s) r q qs name x e u h =
    let head : y ≡ HoleName = ap head_symbol x.is in
    let stops : step c y q.token ≡ None = ap (λ y. step c y q.token) head ∙ ap (step c HoleName) e ∙ ap on_found u in
    absurd (let n : None ≡ Some (q.depth, h.0) = sym stops ∙ h.1 in cc)

appended_name : (new s : Stack) → ExpectsName new → ExpectsName (new ++ s)
appended_name new s x = record { more = x.more ++ s; is = ap (λ l. l ++ s) x.is }

hole_run : (c : Context) (s r : Stack) (ps : List Placed) (name : List ℕ) → AllMay c s → leaf_named c.holes name ≡ None → tokens_in ps ≡ Mark sign.Less ∷ Word name ∷ [] → Run c s ps r → ⊥
hole_run c s r [] name m u e h = absurd cc
hole_run c s r (p ∷ []) name m u e h = absurd (omega (arith, ap length e))
hole_run c [] r (p ∷ (q ∷ ps)) name m u e h = absurd h
hole_run c (x ∷ s) r (p ∷ (q ∷ ps)) name m u e h =
    let first : p.token ≡ Mark sign.Less = cc in
    let second : q.token ≡ Word name = cc in
    let expects : ExpectsName h.0 = less_step c x p.depth h.0 m.0 (sym (ap (step c x) first) ∙ h.1) in
    name_run c (h.0 ++ s) r q ps name (appended_name h.0 s expects) second u h.2

module _ (c : Context) (k : IsContext c) where
  pub unknown_stops : (front : Tokens) (name : List ℕ) → leaf_named c.holes name ≡ None → Begins c (front ++ Mark sign.Less ∷ Word name ∷ []) → ⊥
  unknown_stops front name u b =
      let run = begins_run c k (front ++ Mark sign.Less ∷ Word name ∷ []) b in
      let p = split_tokens run.0 front (Mark sign.Less ∷ Word name ∷ []) run.3 in
      let parts = run_split c p.front p.back start run.1 (subst (λ ps. Run c start ps run.1) p.is run.2) in
      hole_run c parts.0 run.1 p.back name (run_may c p.front start parts.0 (start_may c) parts.1) u p.second parts.2

  -- ---- the three cases

  abbrev pub Follows : Tokens → Followed → Type 0
  Follows ts a = follow c 32 start ts ≡ a

  trace_of : (ts : Tokens) → Trace c 32 start ts (follow c 32 start ts)
  trace_of ts = traced c 32 start ts

  spelled_case : (ts us : Tokens) (ms : List Said) → IsEnded ts → transfer c 31 ts ≡ gives ms us → Follows ts (gives tt us) → IsSpelled c ms ts
  spelled_case ts us ms ended e follows =
      let t : Transferred c k ts ms us = transfer_spelled c k 31 ts us ms e in
      let b : Bodied (tokens_in t.placed) = transfer_ended c ms t.placed t.spells in
      let th : Through c 32 start ts us = through_of c 32 start ts us (follow c 32 start ts) (trace_of ts) follows in
      let same : tokens_in th.placed ≡ tokens_in t.placed = append_cancel_right (tokens_in th.placed) (tokens_in t.placed) us (sym th.split ∙ t.split) in
      let placed : th.placed ≡ t.placed = run_alike c th.placed t.placed start [] [] th.run (transfer_run c k ms t.placed t.spells) same in
      let whole : b.body ++ Mark sign.End ∷ us ≡ ended.body ++ Mark sign.End ∷ [] =
      sym (append_assoc b.body (Mark sign.End ∷ []) us) ∙ ap (λ l. l ++ us) (sym b.is) ∙ sym t.split ∙ ended.is in
      let nothing : us ≡ [] = one_end b.body ended.body us ended.none whole in
      record {
        placed = t.placed;
        tokens = sym (append-nil (tokens_in t.placed)) ∙ ap (λ us. tokens_in t.placed ++ us) (sym nothing) ∙ sym t.split;
        spells = t.spells;
        within = within_from 32 t.placed (subst (Within 32) placed th.within);
      }

  -- a fault of depth is where the automaton finds it
  pub too_deep_at : (ts before : Tokens) → TooDeepAt c ts before → (n : ℕ) × Follows ts (deep_at n) × (length ts ≡ length before + n)
  too_deep_at ts before t =
      let r = run_split c t.front (t.at ∷ t.after) start [] (transfer_run c k t.said (t.front ++ t.at ∷ t.after) t.spells) in
      let ts_is : ts ≡ tokens_in t.front ++ t.at.token ∷ t.rest = t.split ∙ ap (λ l. l ++ t.at.token ∷ t.rest) (sym t.begins) in (
        length (t.at.token ∷ t.rest),
        ap (follow c 32 start) ts_is ∙ run_followed c 32 t.front start r.0 (t.at.token ∷ t.rest) r.1 (within_to 32 t.front t.within) ∙ go r.0 r.2,
        ap length t.split ∙ length-append before (t.at.token ∷ t.rest),
      )
    where
      go : (s : Stack) → Run c s (t.at ∷ t.after) [] → follow c 32 s (t.at.token ∷ t.rest) ≡ deep (t.at.token ∷ t.rest)
      go [] h = absurd h
      go (x ∷ s) h = deep_followed c 32 x s h.0 t.at.depth t.at.token t.rest h.1 (ap (stands 32) t.deep)

  never_deep : (ts before : Tokens) (n : ℕ) → Follows ts (wrong_at n) → TooDeepAt c ts before → ⊥
  never_deep ts before n f t = let d = too_deep_at ts before t in absurd (let e : wrong_at n ≡ deep_at d.0 = sym f ∙ d.1 in cc)

  unfinished_not : (ts : Tokens) → IsEnded ts → Unfinished c start ts → ⊥
  unfinished_not ts ended u =
      let b = begun c k u.placed (u.symbol ∷ u.below) u.run in
      let e : Bodied (tokens_in (u.placed ++ b.after)) = transfer_ended c b.said (u.placed ++ b.after) b.spells in
      let whole : ended.body ++ Mark sign.End ∷ tokens_in b.after ≡ e.body ++ Mark sign.End ∷ [] =
      sym (append_assoc ended.body (Mark sign.End ∷ []) (tokens_in b.after)) ∙ ap (λ l. l ++ tokens_in b.after) (sym ended.is ∙ u.split) ∙ sym (tokens_append u.placed b.after) ∙ e.is in
      go b.after (one_end ended.body e.body (tokens_in b.after) e.none whole) b.run
    where
      go : (ps : List Placed) → tokens_in ps ≡ [] → Run c (u.symbol ∷ u.below) ps [] → ⊥
      go [] e h = absurd cc
      go (p ∷ ps) e h = absurd cc

  -- the automaton stopped, and what it stopped at is no name in a whole hole that isn't open
  stopped_plain : (ts : Tokens) (n : ℕ) → Follows ts (wrong_at n) → Stopped c 32 start ts n
      → (nat_lt n (length ts) && is_unknown_hole c (last_tokens (suc n) ts)) ≡ false → FormFaultLeaves c ts n
  stopped_plain ts n f s plain = record {
    before = tokens_in s.placed;
    fault = record {
      bad = unexpected s.at s.rest
          (record { split = s.split; goes = run_begins c k s.placed (s.symbol ∷ s.below) (tokens_in s.placed) s.run refl; stops = stops c k s.placed s.symbol s.below s.at (tokens_in s.placed) s.run s.none refl })
          (λ h. no_name h);
      first = λ front t. absurd (never_deep ts front n f t);
    };
    leaves = record { rest = s.at ∷ s.rest; split = s.split; left = s.left };
  }
    where
      no_name : IsNameOfUnknown c (tokens_in s.placed) s.at s.rest → ⊥
      no_name h =
          let tail : Tokens = Mark sign.Less ∷ Word h.name ∷ Mark sign.Greater ∷ h.behind in
          let rest_is : s.at ∷ s.rest ≡ Word h.name ∷ Mark sign.Greater ∷ h.behind = λ i. h.is i ∷ h.right i in
          let ts_is : ts ≡ h.front ++ tail =
          s.split ∙ ap (λ l. l ++ s.at ∷ s.rest) h.left ∙ append_assoc h.front (Mark sign.Less ∷ []) (s.at ∷ s.rest) ∙ ap (λ l. h.front ++ Mark sign.Less ∷ l) rest_is in
          let count : length tail ≡ suc n = omega (arith, s.left, ap length rest_is) in
          let last : last_tokens (suc n) ts ≡ tail = ap (λ m. last_tokens m ts) (sym count) ∙ ap (last_tokens (length tail)) ts_is ∙ last_is h.front tail in
          let whole : is_unknown_hole c (last_tokens (suc n) ts) ≡ true = ap (is_unknown_hole c) last ∙ front_hole c h.name h.behind h.unknown in
          let within : nat_lt n (length ts) ≡ true = lt-ltb n (length ts) (omega (arith, ap length ts_is, length-append h.front tail, count)) in
          absurd (let both : (nat_lt n (length ts) && is_unknown_hole c (last_tokens (suc n) ts)) ≡ true = and_from _ _ within whole in cc)

  take_drop : (n : ℕ) (ts : Tokens) → n ≤ length ts → (ts ≡ take (length ts - n) ts ++ last_tokens n ts) × (length (take (length ts - n) ts) + n ≡ length ts)
  take_drop n ts le =
      let e : take (length ts - n) ts ++ drop (length ts - n) ts ≡ ts = take-append-drop (length ts - n) ts in
      (sym e, omega (arith, length-take (length ts - n) ts, le))

  -- the automaton stopped at the name in a whole hole that isn't open
  stopped_hole : (ts : Tokens) (n : ℕ) → Follows ts (wrong_at n) → Stopped c 32 start ts n
      → (nat_lt n (length ts) && is_unknown_hole c (last_tokens (suc n) ts)) ≡ true → FormFaultLeaves c ts (suc n)
  stopped_hole ts n f s whole =
      let p = and_parts (nat_lt n (length ts)) (is_unknown_hole c (last_tokens (suc n) ts)) whole in
      let less : n < length ts = ltb-true n (length ts) p.0 in
      let front : Tokens = take (length ts - suc n) ts in
      let cut = take_drop (suc n) ts (omega (arith, less)) in
      let h : HoleFront c (last_tokens (suc n) ts) = hole_front c (last_tokens (suc n) ts) p.1 in
      let m : Middle front (tokens_in s.placed) (last_tokens (suc n) ts) (s.at ∷ s.rest) =
      middle_of front (tokens_in s.placed) (last_tokens (suc n) ts) (s.at ∷ s.rest) (sym cut.0 ∙ s.split)
      (omega (arith, cut.1, ap length s.split, length-append (tokens_in s.placed) (s.at ∷ s.rest), s.left)) in
      let goes : Begins c (front ++ m.middle) = subst (Begins c) m.longer (run_begins c k s.placed (s.symbol ∷ s.below) (tokens_in s.placed) s.run refl) in
      record {
        before = front;
        fault = record {
          bad = unknown_hole h.name h.rest (cut.0 ∙ ap (λ l. front ++ l) h.is) h.unknown (fewer_begin c front m.middle goes);
          first = λ other t. absurd (never_deep ts other n f t);
        };
        leaves = record { rest = last_tokens (suc n) ts; split = cut.0; left = omega (arith, cut.1, ap length cut.0, length-append front (last_tokens (suc n) ts)) };
      }

  wrong_case : (ts : Tokens) (n : ℕ) (b : Bool) → IsEnded ts → Follows ts (wrong_at n) → (nat_lt n (length ts) && is_unknown_hole c (last_tokens (suc n) ts)) ≡ b
      → Answers c ts (Err (cond b (Wrong (suc n)) (Wrong n)))
  wrong_case ts n b ended f e = elim (wrong_of c 32 start ts n (follow c 32 start ts) (trace_of ts) f) as (λ _. Answers c ts (Err (cond b (Wrong (suc n)) (Wrong n)))) [
    | inl s ↦ go b s e
    | inr u ↦ absurd (unfinished_not ts ended u)
  ]
    where
      go : (b : Bool) → Stopped c 32 start ts n → (nat_lt n (length ts) && is_unknown_hole c (last_tokens (suc n) ts)) ≡ b → Answers c ts (Err (cond b (Wrong (suc n)) (Wrong n)))
      go true s e = stopped_hole ts n f s e
      go false s e = stopped_plain ts n f s e

  -- ---- a tree too deep

  -- the tokens up to the one that begins it begin a transfer
  deep_begins : (ts : Tokens) (n : ℕ) (d : Deepened c 32 start ts n) → Begun c k (d.placed ++ record { token = d.at; depth = d.depth } ∷ []) (d.new ++ d.below)
  deep_begins ts n d =
      begun c k (d.placed ++ record { token = d.at; depth = d.depth } ∷ []) (d.new ++ d.below)
      (run_append c d.placed (record { token = d.at; depth = d.depth } ∷ []) start (d.symbol ∷ d.below) (d.new ++ d.below) d.run (d.new, d.goes, refl))

  deep_place : (ts : Tokens) (n : ℕ) (d : Deepened c 32 start ts n) → TooDeepAt c ts (tokens_in d.placed)
  deep_place ts n d =
      let b = deep_begins ts n d in
      let most : d.depth ≤ 33 = next_shallow 32 c d.placed d.symbol d.below d.new d.depth d.at d.within d.run d.goes in
      record {
        said = b.said;
        front = d.placed;
        at = record { token = d.at; depth = d.depth };
        after = b.after;
        rest = d.rest;
        spells = subst (SpellsTransfer c b.said) (append_assoc d.placed (record { token = d.at; depth = d.depth } ∷ []) b.after) b.spells;
        begins = refl;
        split = d.split;
        deep = past d.depth most d.below_not;
        within = within_from 32 d.placed d.within;
      }
    where
      past : (d : ℕ) → d ≤ 33 → stands 32 d ≡ false → d ≡ 33
      past zero le h = absurd cc
      past (suc d) le h = omega (arith, le, leb-false (suc d) 32 h)

  deep_front : (ts : Tokens) (n : ℕ) (d : Deepened c 32 start ts n) → Begins c (tokens_in d.placed ++ d.at ∷ [])
  deep_front ts n d =
      run_begins c k (d.placed ++ record { token = d.at; depth = d.depth } ∷ []) (d.new ++ d.below) (tokens_in d.placed ++ d.at ∷ [])
      (run_append c d.placed (record { token = d.at; depth = d.depth } ∷ []) start (d.symbol ∷ d.below) (d.new ++ d.below) d.run (d.new, d.goes, refl))
      (tokens_append d.placed (record { token = d.at; depth = d.depth } ∷ []))

  deep_length : (ts : Tokens) (n : ℕ) (d : Deepened c 32 start ts n) → length ts ≡ length (tokens_in d.placed) + n
  deep_length ts n d = omega (arith, ap length d.split, length-append (tokens_in d.placed) (d.at ∷ d.rest), d.left)

  same_deep : (m n : ℕ) → deep_at m ≡ deep_at n → m ≡ n
  same_deep m n e = ap count_in e

  -- a hole that isn't open would stand too deep
  deep_hole : (ts : Tokens) (n : ℕ) → Follows ts (deep_at n) → (d : Deepened c 32 start ts n) → is_unknown_hole c (last_tokens n ts) ≡ true → FormFaultLeaves c ts n
  deep_hole ts n f d whole =
      let tail : Tokens = d.at ∷ d.rest in
      let last : last_tokens n ts ≡ tail = ap (λ m. last_tokens m ts) (sym d.left) ∙ ap (last_tokens (length tail)) d.split ∙ last_is (tokens_in d.placed) tail in
      let h : HoleFront c tail = hole_front c tail (ap (is_unknown_hole c) (sym last) ∙ whole) in
      record {
        before = tokens_in d.placed;
        fault = record {
          bad = unknown_hole h.name h.rest (d.split ∙ ap (λ l. tokens_in d.placed ++ l) h.is) h.unknown (run_begins c k d.placed (d.symbol ∷ d.below) (tokens_in d.placed) d.run refl);
          first = λ front t. let o = too_deep_at ts front t in
              let same : n ≡ o.0 = same_deep n o.0 (sym f ∙ o.1) in omega (arith, o.2, same, deep_length ts n d);
        };
        leaves = record { rest = tail; split = d.split; left = d.left };
      }

  -- the fronts of what goes on too deep
  fronts_begin : (ts : Tokens) (n : ℕ) (d : Deepened c 32 start ts n) (us vs : Tokens) → ts ≡ us ++ vs → length us ≤ suc (length (tokens_in d.placed)) → Begins c us
  fronts_begin ts n d us vs e le =
      let whole : Tokens = tokens_in d.placed ++ d.at ∷ [] in
      let m : Middle us whole vs d.rest =
      middle_of us whole vs d.rest (sym e ∙ d.split ∙ sym (append_assoc (tokens_in d.placed) (d.at ∷ []) d.rest))
      (omega (arith, le, length-append (tokens_in d.placed) (d.at ∷ []))) in
      fewer_begin c us m.middle (subst (Begins c) m.longer (deep_front ts n d))

  deep_first : (ts : Tokens) (n : ℕ) (d : Deepened c 32 start ts n) → is_unknown_hole c (last_tokens n ts) ≡ false → (front : Tokens) → BadFormAt c ts front → length (tokens_in d.placed) < length front
  deep_first ts n d plain front (unexpected at rest bad name) = elim (cases_lt (length (tokens_in d.placed)) (length front)) [
    | inl lt ↦ lt
    | inr le ↦ absurd (bad.stops (fronts_begin ts n d (front ++ at ∷ []) rest (bad.split ∙ sym (append_assoc front (at ∷ []) rest)) (omega (arith, le, length-append front (at ∷ [])))))
  ]
  deep_first ts n d plain front (unknown_hole name rest split unknown goes) = elim (cases_order (length front) (length (tokens_in d.placed))) [
    | inl same ↦ absurd (
        let tail : Tokens = Mark sign.Less ∷ Word name ∷ Mark sign.Greater ∷ rest in
        let count : length tail ≡ n = omega (arith, same, ap length split, length-append front tail, deep_length ts n d) in
        let last : last_tokens n ts ≡ tail = ap (λ m. last_tokens m ts) (sym count) ∙ ap (last_tokens (length tail)) split ∙ last_is front tail in
        let whole : is_unknown_hole c (last_tokens n ts) ≡ true = ap (is_unknown_hole c) last ∙ front_hole c name rest unknown in cc)
    | inr other ↦ elim other [
      | inl lt ↦ absurd (unknown_stops front name unknown (fronts_begin ts n d (front ++ Mark sign.Less ∷ Word name ∷ []) (Mark sign.Greater ∷ rest)
          (split ∙ sym (append_assoc front (Mark sign.Less ∷ Word name ∷ []) (Mark sign.Greater ∷ rest))) (omega (arith, lt, length-append front (Mark sign.Less ∷ Word name ∷ [])))))
      | inr gt ↦ gt
    ]
  ]

  deep_case : (ts : Tokens) (n : ℕ) (b : Bool) → Follows ts (deep_at n) → is_unknown_hole c (last_tokens n ts) ≡ b → Answers c ts (Err (cond b (Wrong n) (Deep n)))
  deep_case ts n true f e = deep_hole ts n f (deep_of c 32 start ts n (follow c 32 start ts) (trace_of ts) f) e
  deep_case ts n false f e =
      let d = deep_of c 32 start ts n (follow c 32 start ts) (trace_of ts) f in
      record {
        before = tokens_in d.placed;
        fault = record { deep = deep_place ts n d; first = deep_first ts n d e };
        leaves = record { rest = d.at ∷ d.rest; split = d.split; left = d.left };
      }

  answered : (ts : Tokens) (r : Read (List Said)) → IsEnded ts → transfer c 31 ts ≡ r → follow c 32 start ts ≡ (r >>= λ _ us. gives tt us) → Answers c ts (answer c ts r)
  answered ts (Ok x) ended e f = spelled_case ts x.1 x.0 ended e f
  answered ts (Err (Wrong n)) ended e f = wrong_case ts n (nat_lt n (length ts) && is_unknown_hole c (last_tokens (suc n) ts)) ended f refl
  answered ts (Err (Deep n)) ended e f = deep_case ts n (is_unknown_hole c (last_tokens n ts)) f refl

  pub reading_answers : (ts : Tokens) → IsEnded ts → Answers c ts (reading c ts)
  reading_answers ts ended = answered ts (transfer c 31 ts) ended refl (transfer_is c 31 ts)

  pub spelled_is_read : (ms : List Said) (ts : Tokens) → IsSpelled c ms ts → reading c ts ≡ Ok ms
  spelled_is_read ms ts s =
      let e : tokens_in s.placed ++ [] ≡ ts = append-nil (tokens_in s.placed) ∙ s.tokens in
      let n : length s.placed ≡ length ts = sym (length-map s.placed (λ p. p.token)) ∙ ap length s.tokens in
      let read : transfer c 31 ts ≡ gives ms [] =
      ap (transfer c 31) (sym e) ∙ transfer_reads c k 31 ms s.placed s.spells (within_to 32 s.placed s.within) (length (tokens_in s.placed ++ [])) (omega (arith, n, ap length e)) [] in
      ap (answer c ts) read
