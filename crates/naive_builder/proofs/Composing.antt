-- Operations that are appended in parts.
use Rattle.std.proofs.Common.{◌≡◌, List, [], ◌++◌, sym, subst}
use Rattle.md_rows.specs.declared.description.RawDescription.{RawDescription}
use Rattle.md_shapes.specs.Shapes.{Frame as Fixed}
use Rattle.temp_shapes.specs.declared.rows.ShapeRows.{ShapeRows}
use Rattle.naive_code.specs.Operations.{Op}
use Rattle.naive_builder.specs.declared.builder.Builder.{Builder}
use Rattle.naive_builder.specs.Appending.{Emitted, emitted, fixed_in, Appends, nothing, one_more, Emits}

appends_then : (d : RawDescription) (m : Fixed) (s t u : Emitted) (os ps : List Op) → Appends d m s os t → Appends d m t ps u → Appends d m s (os ++ ps) u
appends_then d m _ _ u _ ps (nothing s) h = h
appends_then d m _ _ u _ ps (one_more s x t o os one rest) h = one_more s x u o (os ++ ps) one (appends_then d m x t u os ps rest h)

-- what changes no code appends nothing
pub emits_none : (d : RawDescription) (rows : ShapeRows) (a b : Builder) → emitted b ≡ emitted a → Emits d rows a [] b
emits_none d rows a b e = subst (λ (s : Emitted). Appends d (fixed_in d rows) (emitted a) [] s) (sym e) (nothing (emitted a))

pub emits_then : (d : RawDescription) (rows : ShapeRows) (a b c : Builder) (os ps : List Op) → Emits d rows a os b → Emits d rows b ps c → Emits d rows a (os ++ ps) c
emits_then d rows a b c os ps h k = appends_then d (fixed_in d rows) (emitted a) (emitted b) (emitted c) os ps h k

-- nor does it before or after others
pub emits_after : (d : RawDescription) (rows : ShapeRows) (a b c : Builder) (os : List Op) → emitted b ≡ emitted a → Emits d rows b os c → Emits d rows a os c
emits_after d rows a b c os e h = subst (λ (s : Emitted). Appends d (fixed_in d rows) s os (emitted c)) e h

pub emits_before : (d : RawDescription) (rows : ShapeRows) (a b c : Builder) (os : List Op) → Emits d rows a os b → emitted c ≡ emitted b → Emits d rows a os c
emits_before d rows a b c os h e = subst (λ (s : Emitted). Appends d (fixed_in d rows) (emitted a) os s) (sym e) h
