-- A `&` to a link's word that stands still is one to such a word.
use Rattle.seize_book.proofs.Kit.{◌≡◌, ℕ, List, [], ◌∷◌, refl, proved, named, Val, vptr, SProp, emp, Lft, ftrue, fsep, flft, ‵, raw, ◌⊛◌, at_ret, ◌$◌, ◌∵◌, !, qed, by, move, keep, split, fsplit, fjoin, rewrite, feq_i, stop, addr, of_opd, first, blocks, exec, returns, enter, alloc_all, pass_all, free_all, look_at, get, through, sets, env, fact, fact_i, heard, tables, yes, owns, types_at, plain, RefOf, shr_vals, shr_Tells, nothing, Stays, stay_dropped, walk_of, Goes-dropped}
use Rattle.std.proofs.Common.{true, Option, option_map, ap}
use base.Fml.{fhide}
use types.ByLocal.{sets_last}
use denote.RawPtr.{block_ptr}
use Rattle.std.proofs.VecSteps.Shapes.{after}
use Rattle.seize_words.specs.LinkSites.{KeyRow, LinkSite, is_still, shares_by, site_in, standing}
use Rattle.seize_words.specs.contracts.link.word.LinkWord as LinkWord
use Rattle.seize_words.proofs.LinkSites.{stands_still}
use Rattle.seize_book.proofs.Fields.{ends}
use Rattle.seize_words.specs.contracts.link.word.LinkWord.still.{ended, clauses}
use Rattle.seize_words.specs.contracts.link.word.LinkWord.still.Key.{name as #self}
use Rattle.seize_words.proofs.link.word.LinkWord.still.Statement.{statement}
use Rattle.seize_words.proofs.link.word.LinkWord.still.Code as code

pub still_spec : {M : Type 1} → statement M
still_spec 𝓤 𝓛 𝓜 𝓡 wired =
    let H = 𝓛.H in let 𝓣 = tables 𝓤 H 𝓜 𝓡 𝓡.env in let fn = code.function in let c = clauses 𝓛 𝓜.mem 𝓡.returns in
    let self = RefOf (0 ∷ []) tt (plain (λ _. LinkWord.the_row)) (λ _. tt) in let hs : Stays ended.signature.params ended.kept = (stay_dropped self yes, tt) in
    proved 𝓛 ended hs c 𝓜 𝓡 (Goes-dropped 𝓛 1 self yes (λ κs x f. refl), tt) #self fn (code.unfolded 𝓤 H 𝓜 𝓡 wired) (λ κs. (shr_vals, tt)) (λ κs. (shr_Tells (named 0) κs.0 LinkWord.the_row, tt)) (λ κs qs bounds a gh are.
    let b : ℕ = a.0.ref_ptr.0 in let o : ℕ = a.0.ref_ptr.1 in let κ : Lft = κs.0 in let w : LinkSite = a.0.now in
    let y : (walk_of 𝓛 ended hs c).Ghost = ((κs, qs, bounds, a, (vptr b o ∷ [], tt)), gh) in let Post : Val → SProp 𝓤 = (walk_of 𝓛 ended hs c).post y in let Asked : Type 0 = is_still w ≡ true in
    qed 𝓛 ((‵ (fsep (flft κ qs.0) ftrue) ⊛ ‵ (owns (types_at ended.signature.params κs) a y.0.4)) ∷ raw (fact 𝓤 Asked) ∷ []) ∵ move ! (1 ∷ []) $ heard ! Asked (λ asked. split ! $ move ! (1 ∷ []) $ fsplit ! $ fsplit ! $ let t = stands_still w asked in
    -- [the reference; the word; nothing; the tokens]
    keep ! (1 ∷ 3 ∷ []) $ rewrite ! 0 (λ (t : Option (ℕ × List KeyRow)). ‵ (fhide (shares_by (site_in w) t (block_ptr b o) κ))) t.1 refl $
    enter ! 𝓣.C 𝓣.Λ fn (vptr b o ∷ []) Post $ alloc_all ! (λ l. pass_all ! refl ((tt, tt), tt) $
    first ! $ blocks ! $ sets ! (addr ! (through ! refl (stop !))) refl (tt, tt) $ sets ! (of_opd ! (get ! refl)) refl (tt, tt) $ sets_last ! (addr ! (through ! refl (stop !))) refl (tt, tt) $
    exec ! 𝓣.C 𝓣.Λ (env code.Mir.locals l) (after 1 (code.function).body) (at_ret _ Post) $ sets ! (of_opd ! (get ! refl)) refl (tt, tt) $
    feq_i ! (List Val) (vptr b o ∷ []) (vptr b o ∷ []) refl $ fjoin ! $
    -- [the reference; the tokens]
    nothing ! $ nothing ! $ fjoin ! $
    returns ! (look_at ! 0 refl) $ free_all ! refl $ keep ! (2 ∷ 0 ∷ 1 ∷ []) $
    by ! (ends 𝓛 ended hs c y (vptr b o) (record { ref_ptr = (b, o); now = standing w.name t.0 }) (tt, tt) (tt, tt) (fact_i 𝓤 _ (emp 𝓤) (ap (λ (s : Option (ℕ × List KeyRow)). option_map (standing w.name) s) t.1))))))
