-- The lines of the description of the PDP-11.
use Rattle.std.specs.Prelude.{ℕ, List, [], ◌∷◌, codes}

unfoldable pub pdp11_lines : List (List ℕ)
pdp11_lines =
    codes "vpo 1" ∷
    codes "name pdp11" ∷
    codes "word 16" ∷
    codes "memory 57344" ∷
    codes "data 1024" ∷
    codes "stack 16384" ∷
    codes "reg 0 r0 result" ∷
    codes "reg 1 r1 general" ∷
    codes "reg 2 r2 general" ∷
    codes "reg 3 r3 general" ∷
    codes "reg 4 r4 general" ∷
    codes "reg 5 r5 general" ∷
    codes "reg 6 sp stack" ∷
    codes "flag 0 Z" ∷
    codes "flag 1 N" ∷
    codes "flag 2 CC" ∷
    codes "class r r0 r1 r2 r3 r4 r5 sp" ∷
    codes "mode src | <r:r> | <r>" ∷
    codes "mode src | #<n:word> | <n>" ∷
    codes "mode src | #<y:sym> | <y>" ∷
    codes "mode src | (<r:r>) | M[<r>]" ∷
    codes "mode src | <k:word>(<r:r>) | M[(<r> + <k>)]" ∷
    codes "mode src | <y:sym> | M[<y>]" ∷
    codes "mode dst | <r:r> | <r>" ∷
    codes "mode dst | (<r:r>) | M[<r>]" ∷
    codes "mode dst | <k:word>(<r:r>) | M[(<r> + <k>)]" ∷
    codes "mode dst | <y:sym> | M[<y>]" ∷
    codes "mode inv | <r:r> | (not <r>)" ∷
    codes "mode inv | #<n:!word> | <n>" ∷
    codes "mode inv | (<r:r>) | (not M[<r>])" ∷
    codes "mode inv | <k:word>(<r:r>) | (not M[(<r> + <k>)])" ∷
    codes "mode inv | <y:sym> | (not M[<y>])" ∷
    codes "mode bmem | (<r:r>) | B[<r>]" ∷
    codes "mode bmem | <k:word>(<r:r>) | B[(<r> + <k>)]" ∷
    codes "mode bmem | <y:sym> | B[<y>]" ∷
    codes "mode bsrc | <r:r> | <r>" ∷
    codes "mode bsrc | (<r:r>) | B[<r>]" ∷
    codes "mode bsrc | <k:word>(<r:r>) | B[(<r> + <k>)]" ∷
    codes "mode bsrc | <y:sym> | B[<y>]" ∷
    codes "row inc <d:dst> | <d> = (<d> + 1); f[0] = ((<d> + 1) ? 0); f[1] = ((<d> + 1) ? 0); f[2] = lost" ∷
    codes "row dec <d:dst> | <d> = (<d> + -1); f[0] = ((<d> + -1) ? 0); f[1] = ((<d> + -1) ? 0); f[2] = lost" ∷
    codes "row neg <d:dst> | <d> = (neg <d>); f[0] = ((neg <d>) ? 0); f[1] = ((neg <d>) ? 0); f[2] = lost" ∷
    codes "row com <d:dst> | <d> = (not <d>); f[0] = ((not <d>) ? 0); f[1] = ((not <d>) ? 0); f[2] = lost" ∷
    codes "row tst <d:dst> | f[0] = (<d> ? 0); f[1] = (<d> ? 0); f[2] = (<d> ? 0)" ∷
    codes "row mov <s:src>,<d:dst> | <d> = <s>; f[0] = (<s> ? 0); f[1] = (<s> ? 0); f[2] = lost" ∷
    codes "row cmp <s:src>,<d:src> | f[0] = (<s> ? <d>); f[1] = lost; f[2] = (<s> ? <d>)" ∷
    codes "row add <s:src>,<d:dst> | <d> = (<d> + <s>); f[0] = ((<d> + <s>) ? 0); f[1] = ((<d> + <s>) ? 0); f[2] = lost" ∷
    codes "row sub <s:src>,<d:dst> | <d> = (<d> - <s>); f[0] = ((<d> - <s>) ? 0); f[1] = ((<d> - <s>) ? 0); f[2] = lost" ∷
    codes "row bis <s:src>,<d:dst> | <d> = (<d> | <s>); f[0] = ((<d> | <s>) ? 0); f[1] = ((<d> | <s>) ? 0); f[2] = lost" ∷
    codes "row bic <s:inv>,<d:dst> | <d> = (<d> & <s>); f[0] = ((<d> & <s>) ? 0); f[1] = ((<d> & <s>) ? 0); f[2] = lost" ∷
    codes "row movb <s:bsrc>,<d:r> | <d> = (sxb <s>); f[0] = ((sxb <s>) ? 0); f[1] = ((sxb <s>) ? 0); f[2] = lost" ∷
    codes "row movb <s:bsrc>,<d:bmem> | <d> = <s>; f[0] = ((sxb <s>) ? 0); f[1] = ((sxb <s>) ? 0); f[2] = lost" ∷
    codes "row beq <l:label> | PC = ((f[0] eq) -> <l>)" ∷
    codes "row bne <l:label> | PC = ((f[0] ne) -> <l>)" ∷
    codes "row bmi <l:label> | PC = ((f[1] lt) -> <l>)" ∷
    codes "row bpl <l:label> | PC = ((f[1] ge) -> <l>)" ∷
    codes "row blt <l:label> | PC = ((f[2] lt) -> <l>)" ∷
    codes "row ble <l:label> | PC = ((f[2] le) -> <l>)" ∷
    codes "row bgt <l:label> | PC = ((f[2] gt) -> <l>)" ∷
    codes "row bge <l:label> | PC = ((f[2] ge) -> <l>)" ∷
    codes "row blo <l:label> | PC = ((f[2] ltu) -> <l>)" ∷
    codes "row blos <l:label> | PC = ((f[2] leu) -> <l>)" ∷
    codes "row bhi <l:label> | PC = ((f[2] gtu) -> <l>)" ∷
    codes "row bhis <l:label> | PC = ((f[2] geu) -> <l>)" ∷
    codes "row br <l:label> | PC = <l>" ∷
    codes "row jsr pc,<f:label> | M[(r[6] + -2)] = PC; r[6] = (r[6] + -2); PC = <f>" ∷
    codes "row rts pc | PC = M[r[6]]; r[6] = (r[6] + 2)" ∷
    codes "row sys getc | r[0] = IN" ∷
    codes "row sys putc | OUT = r[0]" ∷
    codes "row sys exit | HALT = r[0]" ∷
    []
