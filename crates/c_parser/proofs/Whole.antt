-- Whole lists of tokens.
use Rattle.std.proofs.Common.{◌⊎◌, inl, inr, ◌≡◌, ℕ, suc, ◌<◌, ◌≤◌, Bool, true, false, cond, nat_le, List, [], ◌∷◌, ◌++◌, length, map, Option, Some, None, Ok, Err, refl, sym, ap, subst, ◌∙◌, append_assoc, arith}
use Rattle.std.specs.Prelude.{All}
use Rattle.std.proofs.lemmas.List.{append-nil}
use Rattle.std.proofs.lemmas.List.Elements.{All-cons}
use Rattle.std.proofs.lemmas.Bool.{leb-true, le-leb, leb-false}
use Rattle.c_tree.specs.declared.token.At.{At}
use Rattle.c_tree.specs.declared.syntax.Syntax.{Syntax}
use Rattle.c_grammar.specs.declared.sign.Sign.TheVariants as sign
use Rattle.c_grammar.specs.Words.{Word, a_sign, Lexeme}
use Rattle.c_grammar.specs.Phrases.{Leaf}
use Rattle.c_grammar.specs.Grammar.{program}
use Rattle.c_grammar.specs.Spelling.{Stands, Spells, Spelled, Shallow, Begins, FirstBad, FirstDeep, Ended, leaves_of_program}
use Rattle.c_reading.specs.Parsers.{Wrong, Deep, Out}
use Rattle.c_parser.specs.Law.{Unique}
use Rattle.c_parser.proofs.Machine as m
use Rattle.c_tree.specs.declared.syntax.TypeWords.{TypeWords}
use Rattle.c_tree.specs.declared.syntax.TypeWords.TheVariants as words
use Rattle.c_tree.specs.declared.syntax.Return.{Return}
use Rattle.c_tree.specs.declared.syntax.Return.TheVariants as gives
use Rattle.c_tree.specs.declared.syntax.Expr.{Expr}
use Rattle.c_tree.specs.declared.syntax.Expr.TheVariants as tree
use Rattle.c_tree.specs.declared.syntax.Statement.{Statement}
use Rattle.c_tree.specs.declared.syntax.Statement.TheVariants as tree_
use Rattle.c_parser.proofs.Asked.{joined}
use Rattle.c_parser.proofs.Machine.{Frame, Use, Under, fill, offer, close_use, State, step, run, Outcome, Next, moved, at_end}
use Rattle.c_parser.proofs.Runs.{Meets, lex, going}
use Rattle.c_parser.proofs.StatComplete.{complete_program}
use Rattle.c_parser.proofs.Reached.{Taken, Spelt, Reached, Stepped}
use Rattle.c_parser.proofs.StatSteps.{stepped}
use Rattle.c_parser.proofs.Ends.{Done, done, each_end, end_fit}

abbrev pub all : ℕ → Bool
all n = true

abbrev pub shallow : ℕ → Bool
shallow n = nat_le n 200

met_all : (ts : List Lexeme) (ls : List Leaf) → Spells ts ls → Meets all ts ls
met_all [] [] s = tt
met_all [] (l ∷ ls) s = absurd s
met_all (t ∷ ts) [] s = absurd s
met_all (t ∷ ts) (l ∷ ls) s = (s.0, s.1, refl, met_all ts ls s.2)

-- the machine comes to the end of a program's tokens
pub accepts : (p : Syntax) (ts : List Lexeme) → (program p).fits ≡ true → Spells ts (leaves_of_program p) → run all ts (m.program []) ≡ Ok p
accepts p ts fits s = complete_program all p ts fits (record { meets = met_all ts (leaves_of_program p) s })

abbrev pub okay : Syntax → Outcome
okay p = Ok p

pub ok_same : (a b : Syntax) → okay a ≡ okay b → a ≡ b
ok_same a b e = cc

pub unique : Unique
unique ts a b s t = ok_same a b (sym (accepts a ts s.fits s.text) ∙ accepts b ts t.fits t.text)

-- ---- what the machine comes to

abbrev pub tokens_of : Taken → List Lexeme
tokens_of = map (λ x. x.0)

tokens_snoc : (xs : Taken) (x : Lexeme × ℕ) (rest : List Lexeme) → tokens_of (xs ++ x ∷ []) ++ rest ≡ tokens_of xs ++ x.0 ∷ rest
tokens_snoc [] x rest = refl
tokens_snoc (y ∷ xs) x rest = ap (λ l. y.0 ∷ l) (tokens_snoc xs x rest)

-- nothing but a whole program is behind the end
abbrev pub Over : State → Type 0
Over (m.finished p) = Unit {0}
Over _ = ⊥

abbrev pub Over_next : Next → Type 0
Over_next None = Unit {0}
Over_next (Some x) = Over x.1

abbrev pub last_word : Taken → Word
last_word [] = a_sign sign.Other
last_word (x ∷ []) = x.0.word
last_word (x ∷ y ∷ xs) = last_word (y ∷ xs)

last_snoc : (xs : Taken) (x : Lexeme × ℕ) → last_word (xs ++ x ∷ []) ≡ x.0.word
last_snoc [] x = refl
last_snoc (y ∷ []) x = refl
last_snoc (y ∷ z ∷ xs) x = last_snoc (z ∷ xs) x

abbrev pub Ends_here : Taken → State → Type 0
Ends_here xs s = last_word xs ≡ a_sign sign.End → Over s

use_end : (u : Use) (e : Expr) → close_use u e sign.End ≡ None
use_end (m.evaluate us) e = refl
use_end (m.if_ at us) e = refl
use_end (m.while_ at us) e = refl
use_end (m.switch_ at us) e = refl
use_end (m.start_ at us) e = refl
use_end (m.return_ at us) e = refl
use_end (m.case_ at us) e = refl
use_end (m.do_ at x us) e = refl
use_end (m.test_ at b us) e = refl
use_end (m.next_ at b t us) e = refl
use_end (m.size_ i) e = refl
use_end (m.value_ i z) e = refl
use_end (m.list_ i z at es) e = refl

offer_end : (fs : List Frame) (e : Expr) (u : Use) → offer sign.End e fs u ≡ None
offer_end [] e u = use_end u e
offer_end (m.unary at o ∷ fs) e u = offer_end fs (fill (m.unary at o) e) u
offer_end (m.before at o ∷ fs) e u = offer_end fs (fill (m.before at o) e) u
offer_end (m.cast at t ∷ fs) e u = offer_end fs (fill (m.cast at t) e) u
offer_end (m.binary a o ∷ fs) e u = offer_end fs (fill (m.binary a o) e) u
offer_end (m.assign a o ∷ fs) e u = offer_end fs (fill (m.assign a o) e) u
offer_end (m.colon c a ∷ fs) e u = offer_end fs (fill (m.colon c a) e) u
offer_end (m.comma a ∷ fs) e u = offer_end fs (fill (m.comma a) e) u
offer_end (m.question c ∷ fs) e u = refl
offer_end (m.paren at ∷ fs) e u = refl
offer_end (m.element at n ∷ fs) e u = refl
offer_end (m.arguments at n es ∷ fs) e u = refl

settle_end : (us : List Under) (x : Statement) (p : At) → m.settle p (a_sign sign.End) sign.End x us ≡ None
settle_end [] x p = refl
settle_end (m.in_if at e ∷ us) x p = settle_end us (tree_.If at e x None) p
settle_end (m.in_else at e a ∷ us) x p = settle_end us (tree_.If at e a (Some x)) p
settle_end (m.in_while at e ∷ us) x p = settle_end us (tree_.While at e x) p
settle_end (m.in_for at b t n ∷ us) x p = settle_end us (tree_.For at b t n x) p
settle_end (m.in_case at e ∷ us) x p = settle_end us (tree_.Case at e x) p
settle_end (m.in_default at ∷ us) x p = settle_end us (tree_.Default at x) p
settle_end (m.in_do at ∷ us) x p = refl
settle_end (m.in_block at ss ∷ us) x p = refl
settle_end (m.in_switch at e ss ∷ us) x p = refl
settle_end (m.in_body ps at r n qs brace ss ∷ us) x p = refl

over_none : (x : Next) → x ≡ None → Over_next x
over_none None e = tt
over_none (Some x) e = absurd cc

more_end : (g : Return) → m.more_words g sign.End ≡ None
more_end gives.Void = refl
more_end (gives.Value words.Char) = refl
more_end (gives.Value words.Int) = refl
more_end (gives.Value words.Signed) = refl
more_end (gives.Value words.Unsigned) = refl
more_end (gives.Value _) = refl

joined_end : (t : TypeWords) → joined t sign.End ≡ None
joined_end words.Char = refl
joined_end _ = refl

abbrev no_next : Next
no_next = None

same_none : (b : Bool) → cond b no_next no_next ≡ no_next
same_none true = refl
same_none false = refl

end_step : (s : State) (p : At) → Over_next (step s (lex (a_sign sign.End) p))
end_step (m.operand fs u) p = tt
end_step (m.have e fs u) p = over_none _ (offer_end fs e u)
end_step (m.named at n fs u) p = over_none _ (offer_end fs (tree.Name at n) u)
end_step (m.opened at fs u) p = tt
end_step (m.casting at t fs u) p = over_none _ (ap (λ o. m.on_casting at t sign.End o fs u) (joined_end t))
end_step (m.expect x n a) p = tt
end_step (m.either x n a b) p = end_step b p
end_step (m.want us) p = over_none _ (same_none (m.is_block us))
end_step (m.got x us) p = over_none _ (settle_end us x p)
end_step (m.for_first at us) p = tt
end_step (m.declaring at g h) p = over_none _ (ap (λ o. m.on_declaring p at g (a_sign sign.End) o h) (more_end g))
end_step (m.declared at gives.Void n h) p = tt
end_step (m.declared at (gives.Value t) n h) p = tt
end_step (m.item_named i) p = tt
end_step (m.item_sized i z) p = tt
end_step (m.item_valued i z) p = tt
end_step (m.item_ended at t is h) p = tt
end_step (m.item_next at t is h) p = tt
end_step (m.parameters_first k) p = tt
end_step (m.parameter_typed k ps q t) p = over_none _ (ap (λ o. m.on_typed p (a_sign sign.End) o k ps q t) (joined_end t))
end_step (m.parameter_ended k ps) p = tt
end_step (m.parameter_next k ps) p = tt
end_step (m.header k qs) p = tt
end_step (m.program ps) p = tt
end_step (m.finished a) p = tt

ended_step : (s : State) (t : Lexeme) (n : ℕ) (s2 : State) → step s t ≡ Some (n, s2) → t.word ≡ a_sign sign.End → Over s2
ended_step s t n s2 e w =
    let same : lex (a_sign sign.End) t.at ≡ t = λ i. record { word = sym w i; at = t.at } in
    let o : Over_next (step s t) = subst (λ l. Over_next (step s l)) same (end_step s t.at) in
    let k : Over_next (Some (n, s2)) = subst Over_next e o in k

-- a state that the machine comes to by these words
pub record Reaches (xs : Taken) (s : State) : Type 0 where
  pub reached : Reached xs s
  pub goes : (rest : List Lexeme) → run all (tokens_of xs ++ rest) (m.program []) ≡ run all rest s
  pub ends : Ends_here xs s

pub at_first : Reaches [] (m.program [])
at_first = record { reached = (record { leaves = []; is = λ r. refl; spells = tt }, refl); goes = λ rest. refl; ends = λ e. absurd cc }

pub one_more : (xs : Taken) (s : State) (t : Lexeme) (n : ℕ) (s2 : State) → Reaches xs s → step s t ≡ Some (n, s2) → Reaches (xs ++ (t, n) ∷ []) s2
one_more xs s t n s2 r e = record {
  reached = let p : Stepped xs t (Some (n, s2)) = subst (λ x. Stepped xs t x) e (stepped xs t s r.reached) in p;
  goes = λ rest. ap (λ l. run all l (m.program [])) (tokens_snoc xs (t, n) rest) ∙ r.goes (t ∷ rest) ∙ (λ i. m.settled (going s t n s2 e i) (moved all (suc (length rest)) (e i) (run all rest)));
  ends = λ w. ended_step s t n s2 e (sym (last_snoc xs (t, n)) ∙ w);
}

abbrev pub Low : Taken → Type 0
Low [] = Unit {0}
Low (x ∷ xs) = (x.1 ≤ 200) × Low xs

low_snoc : (xs : Taken) (x : Lexeme × ℕ) → Low xs → x.1 ≤ 200 → Low (xs ++ x ∷ [])
low_snoc [] x l h = (h, tt)
low_snoc (y ∷ xs) x l h = (l.0, low_snoc xs x l.1 h)

abbrev pub Stops : State → List Lexeme → Type 0
Stops s [] = at_end s ≡ Err (Wrong 0)
Stops s (t ∷ rest) = step s t ≡ None

pub record All_read (us : List Lexeme) (p : Syntax) : Type 0 where
  pub taken : Taken
  pub back : List Lexeme
  pub tokens : us ≡ tokens_of taken ++ back
  pub low : Low taken
  pub reached : Reached taken (m.finished p)

pub record Stuck (us : List Lexeme) (j : ℕ) : Type 0 where
  pub taken : Taken
  pub back : List Lexeme
  pub split : us ≡ tokens_of taken ++ back
  pub left : length back ≡ j
  pub low : Low taken
  pub state : State
  pub reaches : Reaches taken state
  pub stops : Stops state back
  pub unended : at_end state ≡ Err (Wrong 0)

pub record Sunk (us : List Lexeme) (j : ℕ) : Type 0 where
  pub taken : Taken
  pub token : Lexeme
  pub nesting : ℕ
  pub back : List Lexeme
  pub split : us ≡ tokens_of taken ++ token ∷ back
  pub left : length (token ∷ back) ≡ j
  pub low : Low taken
  pub passes : 200 < nesting
  pub state : State
  pub reached : Reached (taken ++ (token, nesting) ∷ []) state

abbrev pub Ran : List Lexeme → Outcome → Type 0
Ran us (Ok p) = All_read us p
Ran us (Err (Wrong j)) = Stuck us j
Ran us (Err (Deep j)) = Sunk us j
Ran us (Err Out) = Unit {0}

-- where no word is left
ran_end : (us : List Lexeme) (xs : Taken) (s : State) → us ≡ tokens_of xs ++ [] → Low xs → Reaches xs s → Ran us (at_end s)
ran_end us xs (m.finished p) e l r = record { taken = xs; back = []; tokens = e; low = l; reached = r.reached }
ran_end us xs (m.operand fs u) e l r = record { taken = xs; back = []; split = e; left = refl; low = l; state = m.operand fs u; reaches = r; stops = refl; unended = refl }
ran_end us xs (m.have x fs u) e l r = record { taken = xs; back = []; split = e; left = refl; low = l; state = m.have x fs u; reaches = r; stops = refl; unended = refl }
ran_end us xs (m.named at n fs u) e l r = record { taken = xs; back = []; split = e; left = refl; low = l; state = m.named at n fs u; reaches = r; stops = refl; unended = refl }
ran_end us xs (m.opened at fs u) e l r = record { taken = xs; back = []; split = e; left = refl; low = l; state = m.opened at fs u; reaches = r; stops = refl; unended = refl }
ran_end us xs (m.casting at t fs u) e l r = record { taken = xs; back = []; split = e; left = refl; low = l; state = m.casting at t fs u; reaches = r; stops = refl; unended = refl }
ran_end us xs (m.expect x n a) e l r = record { taken = xs; back = []; split = e; left = refl; low = l; state = m.expect x n a; reaches = r; stops = refl; unended = refl }
ran_end us xs (m.either x n a b) e l r = record { taken = xs; back = []; split = e; left = refl; low = l; state = m.either x n a b; reaches = r; stops = refl; unended = refl }
ran_end us xs (m.want vs) e l r = record { taken = xs; back = []; split = e; left = refl; low = l; state = m.want vs; reaches = r; stops = refl; unended = refl }
ran_end us xs (m.got x vs) e l r = record { taken = xs; back = []; split = e; left = refl; low = l; state = m.got x vs; reaches = r; stops = refl; unended = refl }
ran_end us xs (m.for_first at vs) e l r = record { taken = xs; back = []; split = e; left = refl; low = l; state = m.for_first at vs; reaches = r; stops = refl; unended = refl }
ran_end us xs (m.declaring at g h) e l r = record { taken = xs; back = []; split = e; left = refl; low = l; state = m.declaring at g h; reaches = r; stops = refl; unended = refl }
ran_end us xs (m.declared at g n h) e l r = record { taken = xs; back = []; split = e; left = refl; low = l; state = m.declared at g n h; reaches = r; stops = refl; unended = refl }
ran_end us xs (m.item_named i) e l r = record { taken = xs; back = []; split = e; left = refl; low = l; state = m.item_named i; reaches = r; stops = refl; unended = refl }
ran_end us xs (m.item_sized i z) e l r = record { taken = xs; back = []; split = e; left = refl; low = l; state = m.item_sized i z; reaches = r; stops = refl; unended = refl }
ran_end us xs (m.item_valued i z) e l r = record { taken = xs; back = []; split = e; left = refl; low = l; state = m.item_valued i z; reaches = r; stops = refl; unended = refl }
ran_end us xs (m.item_ended at t is h) e l r = record { taken = xs; back = []; split = e; left = refl; low = l; state = m.item_ended at t is h; reaches = r; stops = refl; unended = refl }
ran_end us xs (m.item_next at t is h) e l r = record { taken = xs; back = []; split = e; left = refl; low = l; state = m.item_next at t is h; reaches = r; stops = refl; unended = refl }
ran_end us xs (m.parameters_first k) e l r = record { taken = xs; back = []; split = e; left = refl; low = l; state = m.parameters_first k; reaches = r; stops = refl; unended = refl }
ran_end us xs (m.parameter_typed k ps q t) e l r = record { taken = xs; back = []; split = e; left = refl; low = l; state = m.parameter_typed k ps q t; reaches = r; stops = refl; unended = refl }
ran_end us xs (m.parameter_ended k ps) e l r = record { taken = xs; back = []; split = e; left = refl; low = l; state = m.parameter_ended k ps; reaches = r; stops = refl; unended = refl }
ran_end us xs (m.parameter_next k ps) e l r = record { taken = xs; back = []; split = e; left = refl; low = l; state = m.parameter_next k ps; reaches = r; stops = refl; unended = refl }
ran_end us xs (m.header k qs) e l r = record { taken = xs; back = []; split = e; left = refl; low = l; state = m.header k qs; reaches = r; stops = refl; unended = refl }
ran_end us xs (m.program ps) e l r = record { taken = xs; back = []; split = e; left = refl; low = l; state = m.program ps; reaches = r; stops = refl; unended = refl }

abbrev by_depth : Bool → ℕ → Outcome → Outcome
by_depth b n v = cond b v (Err (Deep n))

pub ran_step : (ts us : List Lexeme) (xs : Taken) (s : State) (t : Lexeme) → at_end s ≡ Err (Wrong 0) → us ≡ tokens_of xs ++ t ∷ ts → Low xs → Reaches xs s → ((n : ℕ) (s2 : State) → step s t ≡ Some (n, s2) → n ≤ 200 → Ran us (run shallow ts s2)) → Ran us (moved shallow (suc (length ts)) (step s t) (run shallow ts))
ran_step ts us xs s t un e l r more = onward (step s t) refl
  where
    deep : (n : ℕ) (s2 : State) → step s t ≡ Some (n, s2) → (b : Bool) → shallow n ≡ b → Ran us (by_depth b (suc (length ts)) (run shallow ts s2))
    deep n s2 is true h = more n s2 is (leb-true n 200 h)
    deep n s2 is false h = record { taken = xs; token = t; nesting = n; back = ts; split = e; left = refl; low = l; passes = leb-false n 200 h; state = s2; reached = (one_more xs s t n s2 r is).reached }

    onward : (x : Next) → step s t ≡ x → Ran us (moved shallow (suc (length ts)) x (run shallow ts))
    onward None is = record { taken = xs; back = t ∷ ts; split = e; left = refl; low = l; state = s; reaches = r; stops = is; unended = un }
    onward (Some x) is = deep x.0 x.1 is (shallow x.0) refl

pub ending : (s : State) → ((p : Syntax) × (s ≡ m.finished p)) ⊎ (at_end s ≡ Err (Wrong 0))
ending (m.operand fs u) = inr refl
ending (m.have e fs u) = inr refl
ending (m.named at f fs u) = inr refl
ending (m.opened at fs u) = inr refl
ending (m.casting at ty fs u) = inr refl
ending (m.expect x n a) = inr refl
ending (m.either x n a b) = inr refl
ending (m.want us) = inr refl
ending (m.got x us) = inr refl
ending (m.for_first at us) = inr refl
ending (m.declaring at g h) = inr refl
ending (m.declared at g f h) = inr refl
ending (m.item_named i) = inr refl
ending (m.item_sized i z) = inr refl
ending (m.item_valued i z) = inr refl
ending (m.item_ended at ty is h) = inr refl
ending (m.item_next at ty is h) = inr refl
ending (m.parameters_first k) = inr refl
ending (m.parameter_typed k ps q ty) = inr refl
ending (m.parameter_ended k ps) = inr refl
ending (m.parameter_next k ps) = inr refl
ending (m.header k qs) = inr refl
ending (m.program ps) = inr refl
ending (m.finished p) = inl (p, refl)

ran_on : (ts us : List Lexeme) (xs : Taken) (s : State) (t : Lexeme) → us ≡ tokens_of xs ++ t ∷ ts → Low xs → Reaches xs s → ((p : Syntax) × (s ≡ m.finished p)) ⊎ (at_end s ≡ Err (Wrong 0)) → ((n : ℕ) (s2 : State) → step s t ≡ Some (n, s2) → n ≤ 200 → Ran us (run shallow ts s2)) → Ran us (run shallow (t ∷ ts) s)
ran_on ts us xs s t e l r (inl f) more = subst (λ z. Ran us (run shallow (t ∷ ts) z)) (sym f.1) (let q : Reaches xs (m.finished f.0) = subst (λ z. Reaches xs z) f.1 r in record { taken = xs; back = t ∷ ts; tokens = e; low = l; reached = q.reached })
ran_on ts us xs s t e l r (inr un) more = subst (λ a. Ran us (m.settled a (moved shallow (suc (length ts)) (step s t) (run shallow ts)))) (sym un) (ran_step ts us xs s t un e l r more)

pub ran : (ts us : List Lexeme) (xs : Taken) (s : State) → us ≡ tokens_of xs ++ ts → Low xs → Reaches xs s → Ran us (run shallow ts s)
ran [] us xs s e l r = ran_end us xs s e l r
ran (t ∷ ts) us xs s e l r = ran_on ts us xs s t e l r (ending s) (λ n s2 is h. ran ts us (xs ++ (t, n) ∷ []) s2 (e ∙ sym (tokens_snoc xs (t, n) ts)) (low_snoc xs (t, n) l h) (one_more xs s t n s2 r is))

-- ---- the outcomes

spells_of : (xs : Taken) (ls : List Leaf) → Spelt xs ls → Spells (tokens_of xs) ls
spells_of [] [] s = tt
spells_of [] (l ∷ ls) s = absurd s
spells_of (x ∷ xs) [] s = absurd s
spells_of (x ∷ xs) (l ∷ ls) s = (s.0, s.1, spells_of xs ls s.3)

shallow_of : (xs : Taken) (ls : List Leaf) → Low xs → Spelt xs ls → Shallow ls
shallow_of [] [] l s = λ k d h. absurd (omega (arith, h))
shallow_of [] (k ∷ ls) l s = absurd s
shallow_of (x ∷ xs) [] l s = absurd s
shallow_of (x ∷ xs) (k ∷ ls) l s = All-cons (λ y. y.nesting ≤ 200) k ls (omega (arith, l.0, s.2)) (shallow_of xs ls l.1 s.3)

-- a word that stands before others is in the body
in_body : (P : Lexeme → Type 0) (a body : List Lexeme) (t b e : Lexeme) (bs : List Lexeme) → a ++ t ∷ b ∷ bs ≡ body ++ e ∷ [] → All P body → P t
in_body P [] [] t b e bs h k = absurd cc
in_body P [] (x ∷ body) t b e bs h k = let f : x ≡ t = cc in subst P f (k 0 x (omega arith))
in_body P (x ∷ a) [] t b e bs h k = absurd (no_more a cc)
  where
    no_more : (a : List Lexeme) → a ++ t ∷ b ∷ bs ≡ [] → ⊥
    no_more [] h = absurd cc
    no_more (y ∷ a) h = absurd cc
in_body P (x ∷ a) (y ∷ body) t b e bs h k = let f : a ++ t ∷ b ∷ bs ≡ body ++ e ∷ [] = cc in in_body P a body t b e bs f (λ i d lt. k (suc i) d (omega (arith, lt)))

nothing_behind : (us : List Lexeme) (p : Syntax) (r : All_read us p) → Ended us → (back : List Lexeme) → r.back ≡ back → us ≡ tokens_of r.taken
nothing_behind us p r en [] e = r.tokens ∙ ap (λ l. tokens_of r.taken ++ l) e ∙ append-nil (tokens_of r.taken)
nothing_behind us p r en (b ∷ bs) e =
    let f = r.reached.2 in
    let whole : tokens_of f.0 ++ f.1 ∷ b ∷ bs ≡ en.body ++ lex (a_sign sign.End) en.at ∷ [] = sym (tokens_snoc f.0 (f.1, 0) (b ∷ bs)) ∙ ap (λ l. tokens_of l ++ b ∷ bs) (sym f.2) ∙ ap (λ l. tokens_of r.taken ++ l) (sym e) ∙ sym r.tokens ∙ en.is in
    absurd (in_body (λ t. t.word ≡ a_sign sign.End → ⊥) (tokens_of f.0) en.body f.1 b (lex (a_sign sign.End) en.at) bs whole en.none f.3)

pub read_spelled : (us : List Lexeme) (p : Syntax) → Ended us → All_read us p → Spelled us p
read_spelled us p en r =
    let q = r.reached in
    let text : leaves_of_program p ≡ q.0.leaves = each_end p.parts p.end [] ∙ q.0.is [] ∙ append-nil q.0.leaves in
    record {
      text = subst (λ l. Spells us l) (sym text) (subst (λ l. Spells l q.0.leaves) (sym (nothing_behind us p r en r.back refl)) (spells_of r.taken q.0.leaves q.0.spells));
      fits = end_fit p.parts p.end q.1;
      shallow = subst (λ l. Shallow l) (sym text) (shallow_of r.taken q.0.leaves r.low q.0.spells);
    }

begins_of : (xs : Taken) (s : State) → Reached xs s → Done xs
begins_of xs s p = done s xs p

begun : (xs : Taken) (d : Done xs) → Begins (tokens_of xs) d.leaves
begun xs d = record { tree = d.tree; rest = d.rest; split = d.split; spelled = spells_of xs d.leaves d.spells; fits = d.fits }

place_or : Option At → At
place_or None = record { line = 1; column = 1 }
place_or (Some at) = at

pub made : List Leaf → List Lexeme
made [] = []
made (l ∷ ls) = lex l.word (place_or l.at) ∷ made ls

pub made_spells : (ls : List Leaf) → Spells (made ls) ls
unfolding made place_or
made_spells [] = tt
made_spells (l ∷ ls) = (refl, stands l.at, made_spells ls)
  where
    stands : (o : Option At) → Stands o (place_or o)
    stands None = tt
    stands (Some at) = refl

pub spells_append : (ts us : List Lexeme) (ls ks : List Leaf) → Spells ts ls → Spells us ks → Spells (ts ++ us) (ls ++ ks)
spells_append [] us [] ks s r = r
spells_append [] us (l ∷ ls) ks s r = absurd s
spells_append (t ∷ ts) us [] ks s r = absurd s
spells_append (t ∷ ts) us (l ∷ ls) ks s r = (s.0, s.1, spells_append ts us ls ks s.2 r)

-- no program begins with a word that the machine refuses
refused : (xs : Taken) (s : State) (t : Lexeme) → Reaches xs s → at_end s ≡ Err (Wrong 0) → step s t ≡ None → (leaves : List Leaf) → Begins (tokens_of xs ++ t ∷ []) leaves → ⊥
refused xs s t r un e leaves b =
    let full : List Lexeme = (tokens_of xs ++ t ∷ []) ++ made b.rest in
    let sp : Spells full (leaves_of_program b.tree) = subst (λ l. Spells full l) (sym b.split) (spells_append (tokens_of xs ++ t ∷ []) (made b.rest) leaves b.rest b.spelled (made_spells b.rest)) in
    let good : run all full (m.program []) ≡ okay b.tree = accepts b.tree full b.fits sp in
    let bad : run all full (m.program []) ≡ Err (Wrong (suc (length (made b.rest)))) = ap (λ l. run all l (m.program [])) (append_assoc (tokens_of xs) (t ∷ []) (made b.rest)) ∙ r.goes (t ∷ made b.rest) ∙ (λ i. m.settled (un i) (moved all (suc (length (made b.rest))) (e i) (run all (made b.rest)))) in
    apart b.tree (suc (length (made b.rest))) (sym good ∙ bad)
  where
    apart : (p : Syntax) (n : ℕ) → okay p ≡ Err (Wrong n) → ⊥
    apart p n e = absurd cc

pub stuck_at : (us : List Lexeme) (j : ℕ) (k : Stuck us j) (t : Lexeme) (rest : List Lexeme) → k.back ≡ t ∷ rest → FirstBad us t.at
stuck_at us j k t rest e =
    let d = begins_of k.taken k.state k.reaches.reached in
    let refuses : step k.state t ≡ None = let h : Stops k.state (t ∷ rest) = subst (λ l. Stops k.state l) e k.stops in h in
    record {
      before = tokens_of k.taken;
      bad = t;
      rest = rest;
      split = k.split ∙ ap (λ l. tokens_of k.taken ++ l) e;
      place = refl;
      leaves = d.leaves;
      goes = begun k.taken d;
      shallow = shallow_of k.taken d.leaves k.low d.spells;
      stops = refused k.taken k.state t k.reaches k.unended refuses;
    }

last_is_end : (xs : Taken) (body : List Lexeme) (t : Lexeme) → tokens_of xs ≡ body ++ t ∷ [] → last_word xs ≡ t.word
last_is_end [] [] t e = absurd cc
last_is_end [] (b ∷ body) t e = absurd cc
last_is_end (x ∷ []) [] t e = let f : x.0 ≡ t = cc in ap (λ (l : Lexeme). l.word) f
last_is_end (x ∷ []) (b ∷ []) t e = absurd cc
last_is_end (x ∷ []) (b ∷ c ∷ body) t e = absurd cc
last_is_end (x ∷ y ∷ xs) [] t e = absurd cc
last_is_end (x ∷ y ∷ xs) (b ∷ body) t e = let f : tokens_of (y ∷ xs) ≡ body ++ t ∷ [] = cc in last_is_end (y ∷ xs) body t f

over_end : (s : State) → Over s → at_end s ≡ Err (Wrong 0) → ⊥
over_end (m.finished p) o e = absurd cc
over_end (m.program ps) o e = absurd o
over_end (m.operand fs u) o e = absurd o
over_end (m.have x fs u) o e = absurd o
over_end (_) o e = absurd o

-- with the end at last, the machine is never stuck behind it
pub never_behind : (us : List Lexeme) (j : ℕ) (k : Stuck us j) → Ended us → k.back ≡ [] → ⊥
never_behind us j k en e =
    let all_taken : tokens_of k.taken ≡ en.body ++ lex (a_sign sign.End) en.at ∷ [] = sym (append-nil (tokens_of k.taken)) ∙ ap (λ l. tokens_of k.taken ++ l) (sym e) ∙ sym k.split ∙ en.is in
    let stops : at_end k.state ≡ Err (Wrong 0) = let h : Stops k.state [] = subst (λ l. Stops k.state l) e k.stops in h in
    over_end k.state (k.reaches.ends (last_is_end k.taken en.body (lex (a_sign sign.End) en.at) all_taken)) stops

-- where the last of some leaves stands
leaves_snoc : (xs : Taken) (t : Lexeme) (n : ℕ) (ls : List Leaf) → Spelt (xs ++ (t, n) ∷ []) ls → (front : List Leaf) × (l : Leaf) × (ls ≡ front ++ l ∷ []) × Spelt xs front × (n ≡ l.nesting)
leaves_snoc [] t n [] s = absurd s
leaves_snoc [] t n (l ∷ []) s = ([], l, refl, tt, s.2)
leaves_snoc [] t n (l ∷ k ∷ ls) s = absurd s.3
leaves_snoc (x ∷ xs) t n [] s = absurd s
leaves_snoc (x ∷ xs) t n (l ∷ ls) s = let r = leaves_snoc xs t n ls s.3 in (l ∷ r.0, r.1, ap (λ z. l ∷ z) r.2, (s.0, s.1, s.2, r.3), r.4)

pub sunk_at : (us : List Lexeme) (j : ℕ) (k : Sunk us j) → FirstDeep us k.token.at
sunk_at us j k =
    let xs : Taken = k.taken ++ (k.token, k.nesting) ∷ [] in
    let d = begins_of xs k.state k.reached in
    let r = leaves_snoc k.taken k.token k.nesting d.leaves d.spells in
    record {
      before = tokens_of k.taken;
      deep = k.token;
      rest = k.back;
      split = k.split;
      place = refl;
      leaves = r.0;
      leaf = r.1;
      goes = subst (λ l. Begins l (r.0 ++ r.1 ∷ [])) (sym (append-nil (tokens_of xs)) ∙ tokens_snoc k.taken (k.token, k.nesting) []) (subst (λ l. Begins (tokens_of xs) l) r.2 (begun xs d));
      shallow = shallow_of k.taken r.0 k.low r.3;
      passes = omega (arith, k.passes, r.4);
    }

-- the whole: what the machine comes to on tokens
pub outcome : (us : List Lexeme) → Ran us (run shallow us (m.program []))
outcome us = ran us us [] (m.program []) refl tt at_first

met_shallow : (ts : List Lexeme) (ls : List Leaf) → Spells ts ls → Shallow ls → Meets shallow ts ls
met_shallow [] [] s h = tt
met_shallow [] (l ∷ ls) s h = absurd s
met_shallow (t ∷ ts) [] s h = absurd s
met_shallow (t ∷ ts) (l ∷ ls) s h = (s.0, s.1, le-leb _ _ (h 0 l (omega arith)), met_shallow ts ls s.2 (λ k d lt. h (suc k) d (omega (arith, lt))))

-- what is spelled within the nesting is read so
pub spelled_read : (p : Syntax) (us : List Lexeme) → Spelled us p → run shallow us (m.program []) ≡ Ok p
spelled_read p us s = complete_program shallow p us s.fits (record { meets = met_shallow us (leaves_of_program p) s.text s.shallow })
