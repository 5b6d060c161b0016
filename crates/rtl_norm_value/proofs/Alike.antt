-- That two transfers do the same is symmetric and transitive.
use Rattle.std.proofs.Common.{◌≡◌, Result, Ok, Err, arith, refl, sym, subst, ◌∙◌}
use Rattle.rtl_effect.specs.Views.{Stop, View}
use Rattle.rtl_effect.specs.Effects.{Done}
use Rattle.rtl_norm_value.specs.Effect.{IsSameView, IsSameDone, IsSameEffect, both_stop, both_do}

pub same_view_swap : (v z : View) → IsSameView v z → IsSameView z v
same_view_swap v z e = record {
  cells = λ c. sym (e.cells c);
  flags = λ n. sym (e.flags n);
  size = sym e.size;
  bytes = λ a. sym (e.bytes a);
  reach = λ a. sym (e.reach a);
  symbols = λ n. sym (e.symbols n);
  labels = λ l. sym (e.labels l);
  targets = λ l. sym (e.targets l);
  places = λ n. sym (e.places n);
  input = sym e.input;
}

pub same_view_trans : (v y z : View) → IsSameView v y → IsSameView y z → IsSameView v z
same_view_trans v y z e f = record {
  cells = λ c. e.cells c ∙ f.cells c;
  flags = λ n. e.flags n ∙ f.flags n;
  size = e.size ∙ f.size;
  bytes = λ a. e.bytes a ∙ f.bytes a;
  reach = λ a. e.reach a ∙ f.reach a;
  symbols = λ n. e.symbols n ∙ f.symbols n;
  labels = λ l. e.labels l ∙ f.labels l;
  targets = λ l. e.targets l ∙ f.targets l;
  places = λ n. e.places n ∙ f.places n;
  input = e.input ∙ f.input;
}

pub same_done_swap : (x y : Done) → IsSameDone x y → IsSameDone y x
same_done_swap x y e = record { view = same_view_swap x.view y.view e.view; place = sym e.place; output = sym e.output; halt = sym e.halt }

pub same_done_trans : (x y z : Done) → IsSameDone x y → IsSameDone y z → IsSameDone x z
same_done_trans x y z e f = record { view = same_view_trans x.view y.view z.view e.view f.view; place = e.place ∙ f.place; output = e.output ∙ f.output; halt = e.halt ∙ f.halt }

pub same_effect_swap : (x y : Result Done Stop) → IsSameEffect x y → IsSameEffect y x
same_effect_swap x y (both_stop s) = both_stop s
same_effect_swap x y (both_do d e h) = both_do e d (same_done_swap d e h)

after_stop : (s : Stop) (x y : Result Done Stop) → IsSameEffect x y → x ≡ Err s → IsSameEffect (Err s) y
after_stop s x y (both_stop q) e = subst (λ r. IsSameEffect r (Err q)) e (both_stop q)
after_stop s x y (both_do d k h) e = subst (λ r. IsSameEffect r (Ok k)) e (both_do d k h)

after_done : (c d : Done) (x y : Result Done Stop) → IsSameDone c d → IsSameEffect x y → x ≡ Ok d → IsSameEffect (Ok c) y
after_done c d x y h (both_stop s) e = absurd (grind (arith, e))
after_done c d x y h (both_do a b k) e = both_do c b (same_done_trans c a b (subst (IsSameDone c) (sym (same_ok a d e)) h) k)
  where
    same_ok : (a b : Done) → (let l : Result Done Stop = Ok a in l ≡ Ok b) → a ≡ b
    same_ok a b e = grind (arith, e)

pub same_effect_trans : (x y z : Result Done Stop) → IsSameEffect x y → IsSameEffect y z → IsSameEffect x z
same_effect_trans x y z (both_stop s) k = after_stop s (Err s) z k refl
same_effect_trans x y z (both_do c d h) k = after_done c d (Ok d) z h k refl
