-- Runs of the machine over the words of a tree.
use Rattle.std.proofs.Common.{◌≡◌, ℕ, suc, Bool, true, false, cond, List, [], ◌∷◌, ◌++◌, length, Option, Some, None, Err, refl, ap, subst, ◌∙◌}
use Rattle.c_tree.specs.declared.token.At.{At}
use Rattle.c_tree.specs.declared.syntax.TypeWords.{TypeWords}
use Rattle.c_tree.specs.declared.syntax.TypeWords.TheVariants as words
use Rattle.c_grammar.specs.declared.sign.Sign.{Sign}
use Rattle.c_grammar.specs.declared.sign.Sign.TheVariants as sign
use Rattle.c_grammar.specs.Words.{Word, a_sign, sign_of_word, Lexeme}
use Rattle.c_grammar.specs.Phrases.{Leaf, leaf, Part, leaves_of, leaves_at}
use Rattle.c_grammar.specs.Grammar.{type}
use Rattle.c_grammar.specs.Spelling.{Stands}
use Rattle.c_reading.specs.Parsers.{Wrong, Deep}
use Rattle.c_parser.proofs.Asked.{type_of, joined}
use Rattle.c_parser.proofs.Machine as m
use Rattle.c_parser.proofs.Machine.{settled, State, step, run, Outcome, Next, moved, at_end}

abbrev pub lex : Word → At → Lexeme
lex w at = record { word = w; at = at }

abbrev pub head_sign : List Leaf → Sign
head_sign [] = sign.End
head_sign (l ∷ ls) = sign_of_word l.word

-- the words of an expression's start
abbrev pub starts : Sign → Bool
starts sign.Other = true
starts sign.Plus = true
starts sign.Minus = true
starts sign.Tilde = true
starts sign.Exclamation = true
starts sign.Increment = true
starts sign.Decrement = true
starts sign.LeftParen = true
starts _ = false

pub going : (s : State) (t : Lexeme) (n : ℕ) (s2 : State) → step s t ≡ Some (n, s2) → at_end s ≡ Err (Wrong 0)
going (m.operand fs u) t _ s2 eq = refl
going (m.have e fs u) t _ s2 eq = refl
going (m.named at f fs u) t _ s2 eq = refl
going (m.opened at fs u) t _ s2 eq = refl
going (m.casting at ty fs u) t _ s2 eq = refl
going (m.expect x n a) t _ s2 eq = refl
going (m.either x n a b) t _ s2 eq = refl
going (m.want us) t _ s2 eq = refl
going (m.got x us) t _ s2 eq = refl
going (m.for_first at us) t _ s2 eq = refl
going (m.declaring at g h) t _ s2 eq = refl
going (m.declared at g f h) t _ s2 eq = refl
going (m.item_named i) t _ s2 eq = refl
going (m.item_sized i z) t _ s2 eq = refl
going (m.item_valued i z) t _ s2 eq = refl
going (m.item_ended at ty is h) t _ s2 eq = refl
going (m.item_next at ty is h) t _ s2 eq = refl
going (m.parameters_first k) t _ s2 eq = refl
going (m.parameter_typed k ps q ty) t _ s2 eq = refl
going (m.parameter_ended k ps) t _ s2 eq = refl
going (m.parameter_next k ps) t _ s2 eq = refl
going (m.header k qs) t _ s2 eq = refl
going (m.program ps) t _ s2 eq = refl
going (m.finished p) t _ s2 eq = absurd cc

module _ (T : ℕ → Bool) where
  -- words that meet the leaves of a tree, none of which stands deeper than the test lets it
  abbrev pub Meets : List Lexeme → List Leaf → Type 0
  Meets [] [] = Unit {0}
  Meets (t ∷ ts) (l ∷ ls) = (t.word ≡ l.word) × Stands l.at t.at × (T l.nesting ≡ true) × Meets ts ls
  Meets _ _ = ⊥

  pub record Met (ts : List Lexeme) (ls : List Leaf) : Type 0 where
    pub meets : Meets ts ls

  pub met_as : (ts : List Lexeme) (ls ms : List Leaf) → ls ≡ ms → Met ts ls → Met ts ms
  met_as ts ls ms e m = subst (λ l. Met ts l) e m

  -- the first word goes from one state to the next
  pub took : (s s2 : State) {w : Word} {o : Option At} {n : ℕ} {r : List Leaf} (ts : List Lexeme) (v : Outcome) → ((p : At) → Stands o p → step s (lex w p) ≡ Some (n, s2)) → Met ts (leaf w o n ∷ r) → ((vs : List Lexeme) → Met vs r → run T vs s2 ≡ v) → run T ts s ≡ v
  took s s2 [] v e mt k = absurd mt.meets
  took s s2 {w} {o} {n} {r} (t ∷ ts) v e mt k =
      let same : t ≡ lex w t.at = λ i. record { word = mt.meets.0 i; at = t.at } in
      let goes : step s t ≡ Some (n, s2) = ap (λ l. step s l) same ∙ e t.at mt.meets.1 in
      ap (λ a. settled a (moved T (suc (length ts)) (step s t) (run T ts))) (going s t n s2 goes) ∙ ap (λ (x : Next). moved T (suc (length ts)) x (run T ts)) goes ∙ ap (λ b. cond b (run T ts s2) (Err (Deep (suc (length ts))))) mt.meets.2 ∙ k ts (record { meets = mt.meets.3 })

  -- the first word does the same to both states
  pub skip : (s s2 : State) → at_end s ≡ at_end s2 → {ls : List Leaf} (ts : List Lexeme) → ((t : Lexeme) → starts (sign_of_word t.word) ≡ true → step s t ≡ step s2 t) → starts (head_sign ls) ≡ true → Met ts ls → run T ts s ≡ run T ts s2
  skip s s2 ends {ls = []} ts e st mt = absurd cc
  skip s s2 ends {ls = l ∷ ls} [] e st mt = absurd mt.meets
  skip s s2 ends {ls = l ∷ ls} (t ∷ ts) e st mt = (λ i. settled (ends i) (moved T (suc (length ts)) (e t (ap (λ w. starts (sign_of_word w)) mt.meets.0 ∙ st) i) (run T ts)))

  pub alike : (s s2 : State) (ts : List Lexeme) (r : List Leaf) → at_end s ≡ at_end s2 → ((t : Lexeme) → sign_of_word t.word ≡ head_sign r → step s t ≡ step s2 t) → Met ts r → run T ts s ≡ run T ts s2
  alike s s2 [] r e same mt = e
  alike s s2 (t ∷ ts) [] e same mt = absurd mt.meets
  alike s s2 (t ∷ ts) (l ∷ ls) e same mt = (λ i. settled (e i) (moved T (suc (length ts)) (same t (ap sign_of_word mt.meets.0) i) (run T ts)))

  -- ---- types

  abbrev pub type_leaves : Option At → TypeWords → ℕ → List Leaf → List Leaf
  type_leaves o words.Char n r = leaf (a_sign sign.Char) o n ∷ r
  type_leaves o words.SignedChar n r = leaf (a_sign sign.Signed) o n ∷ leaf (a_sign sign.Char) None n ∷ r
  type_leaves o words.CharSigned n r = leaf (a_sign sign.Char) o n ∷ leaf (a_sign sign.Signed) None n ∷ r
  type_leaves o words.UnsignedChar n r = leaf (a_sign sign.Unsigned) o n ∷ leaf (a_sign sign.Char) None n ∷ r
  type_leaves o words.CharUnsigned n r = leaf (a_sign sign.Char) o n ∷ leaf (a_sign sign.Unsigned) None n ∷ r
  type_leaves o words.Int n r = leaf (a_sign sign.Int) o n ∷ r
  type_leaves o words.Signed n r = leaf (a_sign sign.Signed) o n ∷ r
  type_leaves o words.SignedInt n r = leaf (a_sign sign.Signed) o n ∷ leaf (a_sign sign.Int) None n ∷ r
  type_leaves o words.IntSigned n r = leaf (a_sign sign.Int) o n ∷ leaf (a_sign sign.Signed) None n ∷ r
  type_leaves o words.Unsigned n r = leaf (a_sign sign.Unsigned) o n ∷ r
  type_leaves o words.UnsignedInt n r = leaf (a_sign sign.Unsigned) o n ∷ leaf (a_sign sign.Int) None n ∷ r
  type_leaves o words.IntUnsigned n r = leaf (a_sign sign.Int) o n ∷ leaf (a_sign sign.Unsigned) None n ∷ r

  pub type_of_leaves : (t : TypeWords) (ps : List Part) (n : ℕ) (r : List Leaf) → leaves_of (type t ++ ps) n r ≡ type_leaves None t n (leaves_of ps n r)
  type_of_leaves words.Char ps n r = refl
  type_of_leaves words.SignedChar ps n r = refl
  type_of_leaves words.CharSigned ps n r = refl
  type_of_leaves words.UnsignedChar ps n r = refl
  type_of_leaves words.CharUnsigned ps n r = refl
  type_of_leaves words.Int ps n r = refl
  type_of_leaves words.Signed ps n r = refl
  type_of_leaves words.SignedInt ps n r = refl
  type_of_leaves words.IntSigned ps n r = refl
  type_of_leaves words.Unsigned ps n r = refl
  type_of_leaves words.UnsignedInt ps n r = refl
  type_of_leaves words.IntUnsigned ps n r = refl

  pub type_at_leaves : (at : At) (t : TypeWords) (ps : List Part) (n : ℕ) (r : List Leaf) → leaves_at at (type t ++ ps) n r ≡ type_leaves (Some at) t n (leaves_of ps n r)
  type_at_leaves at words.Char ps n r = refl
  type_at_leaves at words.SignedChar ps n r = refl
  type_at_leaves at words.CharSigned ps n r = refl
  type_at_leaves at words.UnsignedChar ps n r = refl
  type_at_leaves at words.CharUnsigned ps n r = refl
  type_at_leaves at words.Int ps n r = refl
  type_at_leaves at words.Signed ps n r = refl
  type_at_leaves at words.SignedInt ps n r = refl
  type_at_leaves at words.IntSigned ps n r = refl
  type_at_leaves at words.Unsigned ps n r = refl
  type_at_leaves at words.UnsignedInt ps n r = refl
  type_at_leaves at words.IntUnsigned ps n r = refl

  -- what the words of a type do
  pub record Typing (o : Option At) (s : State) (c : TypeWords → State) (n : ℕ) : Type 0 where
    pub begins : (x : Sign) (t : TypeWords) → type_of x ≡ Some t → (p : At) → Stands o p → step s (lex (a_sign x) p) ≡ Some (n, c t)
    pub extends : (t : TypeWords) (x : Sign) (t2 : TypeWords) → joined t x ≡ Some t2 → (p : At) → step (c t) (lex (a_sign x) p) ≡ Some (n, c t2)

  pub typed : (o : Option At) (s : State) (c : TypeWords → State) (n : ℕ) → Typing o s c n → (t : TypeWords) (r : List Leaf) (ts : List Lexeme) (v : Outcome) → Met ts (type_leaves o t n r) → ((vs : List Lexeme) → Met vs r → run T vs (c t) ≡ v) → run T ts s ≡ v
  typed o s c n y words.Char r ts v m k = took s (c words.Char) ts v (y.begins sign.Char words.Char refl) m k
  typed o s c n y words.Int r ts v m k = took s (c words.Int) ts v (y.begins sign.Int words.Int refl) m k
  typed o s c n y words.Signed r ts v m k = took s (c words.Signed) ts v (y.begins sign.Signed words.Signed refl) m k
  typed o s c n y words.Unsigned r ts v m k = took s (c words.Unsigned) ts v (y.begins sign.Unsigned words.Unsigned refl) m k
  typed o s c n y words.SignedChar r ts v m k = took s (c words.Signed) ts v (y.begins sign.Signed words.Signed refl) m (λ vs mv. took (c words.Signed) (c words.SignedChar) vs v (λ p st. y.extends words.Signed sign.Char words.SignedChar refl p) mv k)
  typed o s c n y words.CharSigned r ts v m k = took s (c words.Char) ts v (y.begins sign.Char words.Char refl) m (λ vs mv. took (c words.Char) (c words.CharSigned) vs v (λ p st. y.extends words.Char sign.Signed words.CharSigned refl p) mv k)
  typed o s c n y words.UnsignedChar r ts v m k = took s (c words.Unsigned) ts v (y.begins sign.Unsigned words.Unsigned refl) m (λ vs mv. took (c words.Unsigned) (c words.UnsignedChar) vs v (λ p st. y.extends words.Unsigned sign.Char words.UnsignedChar refl p) mv k)
  typed o s c n y words.CharUnsigned r ts v m k = took s (c words.Char) ts v (y.begins sign.Char words.Char refl) m (λ vs mv. took (c words.Char) (c words.CharUnsigned) vs v (λ p st. y.extends words.Char sign.Unsigned words.CharUnsigned refl p) mv k)
  typed o s c n y words.SignedInt r ts v m k = took s (c words.Signed) ts v (y.begins sign.Signed words.Signed refl) m (λ vs mv. took (c words.Signed) (c words.SignedInt) vs v (λ p st. y.extends words.Signed sign.Int words.SignedInt refl p) mv k)
  typed o s c n y words.IntSigned r ts v m k = took s (c words.Int) ts v (y.begins sign.Int words.Int refl) m (λ vs mv. took (c words.Int) (c words.IntSigned) vs v (λ p st. y.extends words.Int sign.Signed words.IntSigned refl p) mv k)
  typed o s c n y words.UnsignedInt r ts v m k = took s (c words.Unsigned) ts v (y.begins sign.Unsigned words.Unsigned refl) m (λ vs mv. took (c words.Unsigned) (c words.UnsignedInt) vs v (λ p st. y.extends words.Unsigned sign.Int words.UnsignedInt refl p) mv k)
  typed o s c n y words.IntUnsigned r ts v m k = took s (c words.Int) ts v (y.begins sign.Int words.Int refl) m (λ vs mv. took (c words.Int) (c words.IntUnsigned) vs v (λ p st. y.extends words.Int sign.Unsigned words.IntUnsigned refl p) mv k)
