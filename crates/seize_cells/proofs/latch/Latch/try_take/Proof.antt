-- `try_take` is one step; where it found 0 the caller has the token.
use Rattle.std.proofs.Common.{Some, None}
use Rattle.seize_content.proofs.Kit.{ℕ, ◌+◌, [], ◌∷◌, refl, lit<, w64, proved, fm, found, finds, seq_cst, swaps, named, Val, vint, vptr, vcons, vnil, SProp, wand, emp, via, apply∗, Lft, Share, Fml, ftrue, fsep, fex, flft, fbor, ‵, raw, ◌⊛◌, some, later, mean, at_ret, ◌$◌, ◌∵◌, !, qed, by, move, keep, split, fsplit, fjoin, fpick, pick, use0, use1, use2, use3, await, stop, fld, addr, lit, of_opd, no_more, and_then, first, blocks, exec, Calls-last, returns, enter, alloc_all, pass_all, free_all, look_at, get, through, sets, lands_last, env, agg, fact_i, tables, Lends-one, yes, unit, RattleType, owns, types_at, plain, RefOf, shr_vals, shr_Tells, block_ptr, unhide, nothing, Stays, stay_dropped, walk_of, Goes-dropped, tail}
use base.Stored.{Gv}
use types.Match.{live}
use types.Run.{bin, branches}
use types.ByLocal.{sets_last}
use lib.Dec
use Rattle.core.proofs.option.Made.{Some-of, none_of}
use Rattle.core.specs.contracts.option.Option as Opt
use Rattle.seize_content.proofs.Fields.{token, Marked, marked_made, ends}
use Rattle.seize_content.specs.Cells.{cell_token}
use Rattle.seize_cells.specs.Latches.{Side, Inv}
use Rattle.seize_content.specs.contracts.token_cell.CellToken as right
use Rattle.seize_cells.specs.contracts.latch.Latch as latch
use Rattle.seize_cells.proofs.Latches as steps
use Rattle.seize_cells.specs.contracts.latch.Latch.try_take.{ended, clauses}
use Rattle.seize_cells.specs.contracts.latch.Latch.try_take.Key.{name as #self}
use Rattle.seize_cells.proofs.latch.Latch.try_take.Statement.{statement}
use Rattle.seize_cells.proofs.latch.Latch.try_take.Code as code

pub try_take_spec : {M : Type 1} → statement M
try_take_spec 𝓤 𝓛 𝓜 𝓡 wired =
    let H = 𝓛.H in let 𝓣 = tables 𝓤 H 𝓜 𝓡 𝓡.env in let fn = code.function in let c = clauses 𝓛 𝓜.mem 𝓡.returns in
    let hs : Stays ended.signature.params ended.kept = (stay_dropped (RefOf (0 ∷ []) tt (plain (λ _. latch.the_row)) (λ _. tt)) yes, tt) in
    proved 𝓛 ended hs c 𝓜 𝓡 (Goes-dropped 𝓛 1 (RefOf (0 ∷ []) tt (plain (λ _. latch.the_row)) (λ _. tt)) yes (λ κs x f. refl), tt) #self fn (code.unfolded 𝓤 H 𝓜 𝓡 wired)
    (λ κs. (shr_vals, tt)) (λ κs. (shr_Tells (named 0) κs.0 latch.the_row, tt)) (λ κs qs bounds a gh are.
    let γ : ℕ = a.0.now in let b : ℕ = a.0.ref_ptr.0 in let o : ℕ = a.0.ref_ptr.1 in let κ : Lft = κs.0 in let q : Share = qs.0 in let S : RattleType = right.the_row in
    let y : (walk_of 𝓛 ended hs c).Ghost = ((κs, qs, bounds, a, (vptr b o ∷ [], tt)), gh) in let Post : Val → SProp 𝓤 = (walk_of 𝓛 ended hs c).post y in let toks : Fml = fsep (flft κ q) ftrue in
    qed 𝓛 ((‵ toks ⊛ ‵ (owns (types_at ended.signature.params κs) a y.0.4)) ∷ ‵ ftrue ∷ []) ∵ split ! $ fsplit ! $ move ! (2 ∷ []) $ fsplit ! $ fsplit ! $ keep ! (1 ∷ 3 ∷ []) $
    -- [the latch; the token]
    enter ! 𝓣.C 𝓣.Λ fn (vptr b o ∷ []) Post $ alloc_all ! (λ l. pass_all ! refl ((tt, tt), tt) $ let Ev = env fn.locals l in
    unhide ! $ fpick ! (λ ν. let J : Fml = fbor ν (Inv γ b o) in fsplit ! $ move ! (0 ∷ 2 ∷ []) $
    use2 𝓛 (later (some (λ (s : Share). ‵ (flft ν s) ⊛ raw (wand 𝓤 (𝓛.A.lft ν s) (H.⇛ (𝓛.A.lft κ q)))))) (Lends-one 𝓛 𝓜 𝓡 κ ν q) $ await ! tt $ pick ! (λ s. split ! $
    -- [the token; the way back; the invariant]
    let after : ℕ → Fml = λ n. fsep (flft ν s) (Side γ n) in
    first ! $ blocks ! $ sets ! (addr ! (through ! refl (fld ! refl (stop !)))) refl (tt, tt) $ nothing ! $ move ! (3 ∷ 1 ∷ 0 ∷ []) $
    use3 𝓛 (raw (𝓣.C _ (vptr b (o + 0) ∷ vint w64 1 ∷ seq_cst ∷ []) (λ u. mean 𝓛 (found after u))))
    (via 𝓤 _ (steps.takes 𝓛 b o γ ν s) (swaps 𝓛 𝓜 𝓡 (code.calls-core::raw_atomic::swap 𝓡.env wired) (block_ptr b (o + 0)) 1 (lit< tt) after)) $
    sets ! (agg ! (and_then ! (lit ! tt) (no_more !))) refl (tt, (record { fits = lit< tt }, tt)) $
    Calls-last ! (fm 𝓛 𝓜 𝓡) (found after) (and_then ! (get ! refl) (and_then ! (lit ! tt) (and_then ! (get ! refl) (no_more !)))) (λ u. finds ! after (λ n fits.
    lands_last ! refl (tt, record { fits = fits }) $ exec ! 𝓣.C 𝓣.Λ Ev (tail fn.body) (at_ret Ev Post) $ sets ! (of_opd ! (get ! refl)) refl (tt, record { fits = fits }) $
    fsplit ! $ move ! (0 ∷ 2 ∷ []) $ use2 𝓛 (later (‵ (flft κ q))) (apply∗ 𝓤 (𝓛.A.lft ν s) (H.⇛ (𝓛.A.lft κ q))) $ await ! tt $
    -- [the token; the state that was found]
    sets ! (bin ! (get ! refl) (lit ! tt) tt) refl (tt, tt) $ first ! $ branches ! (get ! refl)
    (λ free. sets ! (agg ! (no_more !)) refl (tt, tt) $ sets ! (agg ! (and_then ! (get ! refl) (no_more !))) refl (tt, (tt, tt)) $
    sets_last ! (agg ! (and_then ! (lit ! tt) (and_then ! (get ! refl) (no_more !)))) refl (tt, (record { fits = lit< tt }, ((tt, tt), tt))) $ exec ! 𝓣.C 𝓣.Λ Ev code.Mir.t-5 (at_ret Ev Post) $
    sets ! (of_opd ! (get ! refl)) refl (tt, (record { fits = lit< tt }, ((tt, tt), tt))) $ move ! (1 ∷ []) $
    use1 𝓛 (‵ (fex Gv (cell_token γ))) (steps.won 𝓛 b o γ ν s n (lib.Dec.eqb→eq n 0 free)) $ fpick ! (λ g.
    -- [what the token owns; the lifetime's token]
    let t : S.Denot = record { marker = record {}; name = γ; value = g } in
    use0 𝓛 (‵ ((Marked unit).own_val (record {}, tt) (token ∷ []))) (marked_made unit 𝓛) $ fjoin ! $
    use1 𝓛 (‵ ((Opt.the_row S).own_val (Some t) (live 1 (vcons token vnil) ∷ []))) (Some-of 𝓛 S t token) $
    nothing ! $ move ! (2 ∷ 0 ∷ []) $ fjoin ! $ nothing ! $ nothing ! $ fjoin ! $
    returns ! (look_at ! 0 refl) $ free_all ! refl $ keep ! (1 ∷ 0 ∷ 2 ∷ []) $
    by ! (ends 𝓛 ended hs c y (live 1 (vcons token vnil)) (Some t) (tt, tt) (tt, tt) (fact_i 𝓤 _ (emp 𝓤) refl))))
    (λ held. sets_last ! (agg ! (and_then ! (lit ! tt) (no_more !))) refl (tt, (record { fits = lit< tt }, tt)) $ exec ! 𝓣.C 𝓣.Λ Ev code.Mir.t-5 (at_ret Ev Post) $
    sets ! (of_opd ! (get ! refl)) refl (tt, (record { fits = lit< tt }, tt)) $ use0 𝓛 (‵ ((Opt.the_row S).own_val None (live 0 vnil ∷ []))) (none_of 𝓛 S) $
    nothing ! $ move ! (2 ∷ 0 ∷ []) $ fjoin ! $ nothing ! $ nothing ! $ fjoin ! $
    returns ! (look_at ! 0 refl) $ free_all ! refl $ keep ! (1 ∷ 0 ∷ 2 ∷ []) $
    by ! (ends 𝓛 ended hs c y (live 0 vnil) None (tt, tt) (tt, tt) (fact_i 𝓤 _ (emp 𝓤) tt)))))))))
