-- The code of what a call makes, by which contracts tell two of them apart.
use Rattle.std.specs.Prelude.{◌≡◌, refl}
use Rattle.std.specs.Coded.{codes, Coded, code_by, coded×}
use base.Stored.{Gv, gnil, gnum, gcons}
use Rattle.tree_types.specs.declared.path.Path.{Path}
use Rattle.tree_types.specs.declared.want.Want.{Want}
use Rattle.meaning.specs.Lines.{Own, Parts, nothing, call, may_begin, asks, Made}

own_code : Coded Own
own_code = hlevel codes

path_code : Coded Path
path_code = hlevel codes

want_code : Coded Want
want_code = hlevel codes

abbrev parts_tree : Parts → Gv
parts_tree nothing = gnil
parts_tree (call own inner rest) = gcons (gcons (gnum 0) (own_code.code own)) (gcons (parts_tree inner) (parts_tree rest))
parts_tree (may_begin p rest) = gcons (gcons (gnum 1) (path_code.code p)) (parts_tree rest)
parts_tree (asks w rest) = gcons (gcons (gnum 2) (want_code.code w)) (parts_tree rest)

parts_apart : (x y : Parts) → parts_tree x ≡ parts_tree y → x ≡ y
parts_apart nothing nothing e = refl
parts_apart nothing (call u j s) e = absurd (cc)
parts_apart nothing (may_begin q s) e = absurd (cc)
parts_apart nothing (asks v s) e = absurd (cc)
parts_apart (call o i r) nothing e = absurd (cc)
parts_apart (call o i r) (call u j s) e =
    let own : own_code.code o ≡ own_code.code u = cc in
    let inner : parts_tree i ≡ parts_tree j = cc in
    let rest : parts_tree r ≡ parts_tree s = cc in
    let same_own = own_code.inj o u own in
    let same_inner = parts_apart i j inner in
    let same_rest = parts_apart r s rest in
    λ k. call (same_own k) (same_inner k) (same_rest k)
parts_apart (call o i r) (may_begin q s) e = absurd (cc)
parts_apart (call o i r) (asks v s) e = absurd (cc)
parts_apart (may_begin p r) nothing e = absurd (cc)
parts_apart (may_begin p r) (call u j s) e = absurd (cc)
parts_apart (may_begin p r) (may_begin q s) e =
    let line : path_code.code p ≡ path_code.code q = cc in
    let rest : parts_tree r ≡ parts_tree s = cc in
    let same_line = path_code.inj p q line in
    let same_rest = parts_apart r s rest in
    λ k. may_begin (same_line k) (same_rest k)
parts_apart (may_begin p r) (asks v s) e = absurd (cc)
parts_apart (asks w r) nothing e = absurd (cc)
parts_apart (asks w r) (call u j s) e = absurd (cc)
parts_apart (asks w r) (may_begin q s) e = absurd (cc)
parts_apart (asks w r) (asks v s) e =
    let line : want_code.code w ≡ want_code.code v = cc in
    let rest : parts_tree r ≡ parts_tree s = cc in
    let same_line = want_code.inj w v line in
    let same_rest = parts_apart r s rest in
    λ k. asks (same_line k) (same_rest k)

pub parts_code : Coded Parts
parts_code = record { code = parts_tree; inj = parts_apart }

pub made_code : Coded Made
made_code = code_by (Own × Parts) (coded× own_code parts_code) (λ m. (m.own, m.parts)) (λ p. record { own = p.0; parts = p.1 }) (λ _. refl)
