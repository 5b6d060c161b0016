use Rattle.std.proofs.Common.{◌≡◌, ℕ, suc, ◌-◌, List, arith, sym, ap, subst, ◌∙◌}
use Rattle.rtl_tree.specs.Trees.{Tree, tree_of}
use Rattle.rtl_spelling.specs.declared.senses.Sense.{Sense}
use Rattle.rtl_spelling.specs.declared.senses.Sense.TheVariants as sense
use Rattle.rtl_spelling.specs.Tokens.{Token}
use Rattle.rtl_spelling.specs.Spelling.{Context}
use Rattle.rtl_spelling.specs.Senses.{sense_of}
use Rattle.rtl_spelling.specs.Reading.{Read, Reader, tree, tree_on, inside, head_of}
use Rattle.rtl_token.specs.Gives.{Gives}
use Rattle.rtl_text.specs.Seen.{context_of, tokens_of}
use Rattle.rtl_text.proofs.trees.+reading.Goals as goal

-- a tree with room for one more
with_room : (x : Context) (n m : ℕ) (ts : List Token) (s : Sense) → n ≡ suc m → s ≡ sense_of x (head_of ts) → tree_on x (tree x m) ts s ≡ tree x n ts
with_room x n m ts s e h = ap (tree_on x (tree x m) ts) h ∙ ap (λ k. tree x k ts) (sym e)

pub tree-returns : goal.tree-returns
tree-returns t c =
    let x : Context = context_of c.args.c.now in
    let P : Read Tree → Type 0 = λ r. Gives (λ x. (tree_of x.0, tokens_of x.1.now)) c.tree_on.result r in
    subst P
    (with_room x c.args.room (c.args.room - 1) (tokens_of c.args.tokens.now) c.sense_of-sense.result (omega arith)
    (c.sense_of-sense.ensures ∙ ap (sense_of x) c.head_of.ensures))
    c.tree_on.ensures

pub tree_at_sign-returns-in-LeftParen : goal.tree_at_sign-returns-in-LeftParen
tree_at_sign-returns-in-LeftParen t c =
    let x : Context = context_of c.args.c.now in
    let R : Reader = tree x c.args.room in
    let P : Read Tree → Type 0 = λ r. Gives (λ x. (tree_of x.0, tokens_of x.1.now)) c.inside.result r in
    subst P
    (ap (inside x R) c.rest_of.ensures ∙ sym (ap (λ s. tree_on x R (tokens_of c.args.tokens.now) (sense.Sign s)) c.in-LeftParen.is))
    c.inside.ensures
