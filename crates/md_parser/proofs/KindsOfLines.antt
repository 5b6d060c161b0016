-- A line with a keyword has no forms of other keywords.
use Rattle.std.proofs.Common.{◌≡◌, ℕ, ◌+◌, ◌*◌, cond, eqb, get_or, List, [], ◌∷◌, ◌++◌, Result, Ok, Err, IfOk, refl, sym, ap, subst, ◌∙◌, codes}
use Rattle.std.specs.Fmt.{signed_decimal}
use Rattle.std.specs.List.{flat_map}
use Rattle.md_text.specs.Forms as says
use Rattle.md_text.specs.Forms.{HasForm, role_word}
use Rattle.md_forms.specs.declared.declarations.Form.{Form}
use Rattle.md_forms.specs.Seen.{form_of}
use Rattle.md_parser.specs.declared.fault.FormFault.{FormFault}
use Rattle.md_parser.specs.declared.keywords.Keyword.{Keyword}
use Rattle.md_parser.specs.declared.keywords.Keyword.TheVariants.{Version, MachineName, WordBits, MemorySize, DataBegin, StackSize, Register, Flag, Class, Mode, Row}
use Rattle.md_parser.specs.Keywords.{Begins, keyword_text, keyword_of}
use Rattle.md_parser.specs.Refusals.{RefusesKind}

abbrev tag : List ℕ → ℕ
tag line = get_or line 0 0 + 256 * get_or line 1 0

-- a line begins with the keyword of its form
begins : (w : ℕ) (line : List ℕ) (f : says.Form) → HasForm w line f → Begins line (keyword_of f)
begins w line says.Version h = record { rest = []; is = h }
begins w line (says.MachineName name) h = record { rest = name; is = h.text }
begins w line (says.WordBits z) h = record { rest = signed_decimal z; is = h.text }
begins w line (says.MemorySize z) h = record { rest = signed_decimal z; is = h.text }
begins w line (says.DataBegin z) h = record { rest = signed_decimal z; is = h.text }
begins w line (says.StackSize z) h = record { rest = signed_decimal z; is = h.text }
begins w line (says.RegisterLine k name role) h = record { rest = signed_decimal k ++ 32 ∷ (name ++ 32 ∷ role_word role); is = h.text }
begins w line (says.FlagLine k name) h = record { rest = signed_decimal k ++ 32 ∷ name; is = h.text }
begins w line (says.ClassLine name registers) h = record { rest = name ++ flat_map (λ register. 32 ∷ register) registers; is = h.text }
begins w line (says.ModeLine name text tree) h = record { rest = name ++ (codes " | " ++ (h.shown ++ (codes " | " ++ h.meant))); is = h.text }
begins w line (says.RowLine text transfer) h = record { rest = h.shown ++ (codes " | " ++ h.meant); is = h.text }

-- the keyword by the first two bytes
keyword_by : ℕ → Keyword
keyword_by n =
    cond (eqb n (tag (codes "vpo 1"))) Version
    (cond (eqb n (tag (codes "name "))) MachineName
    (cond (eqb n (tag (codes "word "))) WordBits
    (cond (eqb n (tag (codes "memory "))) MemorySize
    (cond (eqb n (tag (codes "data "))) DataBegin
    (cond (eqb n (tag (codes "stack "))) StackSize
    (cond (eqb n (tag (codes "reg "))) Register
    (cond (eqb n (tag (codes "flag "))) Flag
    (cond (eqb n (tag (codes "class "))) Class
    (cond (eqb n (tag (codes "mode "))) Mode Row)))))))))

keyword_is : (k : Keyword) (rest : List ℕ) → keyword_by (tag (keyword_text k ++ rest)) ≡ k
unfolding keyword_by
keyword_is Version rest = refl
keyword_is MachineName rest = refl
keyword_is WordBits rest = refl
keyword_is MemorySize rest = refl
keyword_is DataBegin rest = refl
keyword_is StackSize rest = refl
keyword_is Register rest = refl
keyword_is Flag rest = refl
keyword_is Class rest = refl
keyword_is Mode rest = refl
keyword_is Row rest = refl

same_keyword : (line : List ℕ) (j k : Keyword) → Begins line j → Begins line k → j ≡ k
same_keyword line j k b c = sym (keyword_is j b.rest) ∙ ap (λ l. keyword_by (tag l)) (sym b.is ∙ c.is) ∙ keyword_is k c.rest

by_kind : (w : ℕ) (line : List ℕ) (f : says.Form) → RefusesKind (keyword_of f) w line → HasForm w line f → ⊥
by_kind w line says.Version r h = r h
by_kind w line (says.MachineName name) r h = r name h
by_kind w line (says.WordBits z) r h = r z h
by_kind w line (says.MemorySize z) r h = r z h
by_kind w line (says.DataBegin z) r h = r z h
by_kind w line (says.StackSize z) r h = r z h
by_kind w line (says.RegisterLine k name role) r h = r k name role h
by_kind w line (says.FlagLine k name) r h = r k name h
by_kind w line (says.ClassLine name registers) r h = r name registers h
by_kind w line (says.ModeLine name text tree) r h = r name text tree h
by_kind w line (says.RowLine text transfer) r h = r text transfer h

pub none_has : (w : ℕ) (line : List ℕ) (k : Keyword) → Begins line k → RefusesKind k w line → (f : says.Form) → HasForm w line f → ⊥
none_has w line k b r f h =
    let P : Keyword → Type 0 = λ k. RefusesKind k w line in
    by_kind w line f (subst P (same_keyword line k (keyword_of f) b (begins w line f h)) r) h

pub no_keyword : (w : ℕ) (line : List ℕ) → ((k : Keyword) → Begins line k → ⊥) → (f : says.Form) → HasForm w line f → ⊥
no_keyword w line none f h = none (keyword_of f) (begins w line f h)

pub for_bits : (w : ℕ) (line : List ℕ) (r : Result Form FormFault) → IfOk r (λ f. (v : ℕ) → HasForm v line (form_of f)) → IfOk r (λ f. HasForm w line (form_of f))
for_bits w line (Ok f) h = h w
for_bits w line (Err e) h = tt
