-- `stay` comes home, and makes the first pass of what the porter owns there. The work has this pass where it lies, by a loan; when the loan
-- is over, the porter is made of the pass again. A token of the book is kept meanwhile, which has seen what the pass had: the porter at home
-- has seen that too.
use Rattle.seize_book.proofs.Kit.{◌≡◌, ℕ, List, [], ◌∷◌, ◌++◌, refl, sym, subst, leaves, named, fm, Val, vptr, SProp, ent, emp, Lft, Share, ftrue, flft, ‵, raw, ◌⊛◌, some, given, later, at_ret, ◌$◌, ◌∵◌, !, qed, by, move, keep, drop, split, split3, join, fsplit, fjoin, pick, learn, use0, use1, use2, use3, await, rewrite, stop, addr, of_opd, no_more, and_then, first, blocks, exec, returns, enter, alloc_all, pass_all, free_all, look_at, get, through, sets, env, agg, fact, fact_i, tables, RattleType, owns, types_at, plain, feq_i, fjoin3, fsplit3, mut_Tells, nothing, opens, closes, heard, Stays, stay_ref, walk_of, Goes-ref, static_lft}
use Rattle.std.proofs.Common.{true}
use Rattle.std.proofs.raw_atomic.Walks.{proved_at}
use mir.Syntax.{Ty, a_type, dcons, dnil}
use mir.MapTy.{inst_fn}
use base.Fml.{GName, fat, flent}
use base.Fraction.{full_share}
use base.Logic.{id⊢}
use borrow.Table.OneValue.{part_in_at, part_out_at}
use contract.BorrowLft.{◌⊑◌}
use prog.Wp.{WpFn, spot_of}
use types.ByLocal.{give_at, lands_as, sets_last, take_at}
use types.Kit.{suffices}
use types.Run.{from}
use types.SemTy.{Body as SemBody}
use types.Tokens.{lft_end, lft_new}
use denote.Laws.{Is, shows}
use denote.Lend.{lends_ref, ref_back}
use denote.Memory.{mem, part_at}
use denote.Param.{param, bounded}
use denote.Param.Laws.{param_laws}
use denote.Ref.{MutBor, MutRef}
use denote.Steps.{peeks}
use denote.Triple.Call.{calls_at}
use denote.Triple.Clauses.{lasts}
use denote.Triple.Spec.{triple_of}
use denote.Triple.Statement.{Contract}
use denote.Triple.Walked.{gave_ref, Goes-gave_ref}
use Rattle.core.proofs.alloc.Shapes.{after}
use mathlib.Core.List.{IsPrefix}
use Rattle.seize_book.specs.Begin.{book_owns}
use Rattle.seize_book.specs.Entry.{Entry, entry_coded}
use Rattle.seize_book.specs.Ledger.{reached}
use Rattle.seize_book.specs.Tokens.{Name, knows, pass_owns, porter_owns, sized_pass}
use Rattle.seize_book.specs.Porters.{HadStay, MayStay}
use Rattle.seize_book.specs.contracts.book.pass.Pass as Pass
use Rattle.seize_book.specs.contracts.book.porter.Porter as Porter
use Rattle.seize_book.specs.contracts.book.porter.Stay.stay as with
use Rattle.seize_book.proofs.Borrowed.{Mark, mark_made}
use Rattle.seize_book.proofs.Fields.{token}
use Rattle.seize_book.proofs.Learning.{covered}
use Rattle.seize_book.proofs.Shares.{goes_home}
use Rattle.seize_book.proofs.Porters.{IsHome, home_passes, pass_homes, porter_knows, shut_by}
use Rattle.seize_book.specs.contracts.book.porter.Porter.stay.{ended, clauses}
use Rattle.seize_book.specs.contracts.book.porter.Porter.stay.Key.{name as #self}
use Rattle.seize_book.proofs.book.porter.Porter.stay.Statement.{statement}
use Rattle.seize_book.proofs.book.porter.Porter.stay.Code as code

pub stay_spec : {M : Type 1} → statement M
stay_spec 𝓤 𝓛 𝓜 𝓡 wired W R LW LR w dict met =
    let H = 𝓛.H in let 𝓣 = tables 𝓤 H 𝓜 𝓡 𝓡.env in let En = ended W R w dict in let inst = bounded (a_type ∷ a_type ∷ []) (W, (R, tt)) (dcons dict dnil) in let fn = inst_fn inst code.function in
    let Row : RattleType = Porter.the_row in let P : RattleType = Pass.the_row static_lft in let c = clauses W R w dict 𝓛 𝓜.mem 𝓡.returns in
    let V : RattleType = param 0 W in
    let hs : Stays En.signature.params En.kept = (stay_ref (0 ∷ []) tt (plain (λ _. Row)), (gave_ref (1 ∷ []) tt (plain (λ _. V)), tt)) in
    proved_at 𝓛 En hs c 𝓜 𝓡 (Goes-ref 𝓛 4 0 tt (plain (λ _. Row)), (Goes-gave_ref 𝓛 4 1 tt (plain (λ _. V)), tt)) (#self inst) fn (code.unfolded 𝓤 H 𝓜 𝓡 wired (W, (R, tt)) dict) (λ z are.
    let κs = z.0.0 in let qs = z.0.1 in let a = z.0.3 in let rb : ℕ = a.0.ref_ptr.0 in let ro : ℕ = a.0.ref_ptr.1 in let b = a.0.now in let m = a.1.0 in let y : W.Denot = m.now in let wb : ℕ = m.ref_ptr.0 in let wo : ℕ = m.ref_ptr.1 in
    let κ : Lft = κs.0 in let q : Share = qs.0 in let μ : Lft = κs.1.0 in let qm : Share = qs.1.0 in let κw : Lft = κs.1.1.0 in let qw : Share = qs.1.1.0 in let κr : Lft = κs.1.1.1.0 in let qr : Share = qs.1.1.1.0 in
    let Post : Val → SProp 𝓤 = (walk_of 𝓛 En hs c).post z in let Run : List Val → SProp 𝓤 = λ ws. WpFn 𝓤 H 𝓣.C 𝓣.Λ fn ws Post in
    let Lets : Contract 𝓤 = triple_of 𝓛 (with.signature W R) (with.spec W R w dict 𝓛 𝓜.mem 𝓡.returns) in
    let inW : Type 0 = κw ⊑ W.lives in let inR : Type 0 = κr ⊑ R.lives in let May : Type 0 = MayStay (w.may y) b in
    let es = mut_Tells (named 0) κ Row a.0 z.0.4.0 are.0 in let et = mut_Tells (named 1) μ V m z.0.4.1.0 are.1.0 in let vy : Val = vptr wb wo in
    qed 𝓛 (((‵ (flft κ q) ⊛ ‵ (flft μ qm) ⊛ ‵ (flft κw qw) ⊛ ‵ (flft κr qr) ⊛ ‵ ftrue) ⊛ ‵ (owns (types_at En.signature.params κs) a z.0.4)) ∷ raw (fact 𝓤 inW) ∷ raw (fact 𝓤 inR) ∷ raw (fact 𝓤 May) ∷ []) ∵
    move ! (1 ∷ 2 ∷ 3 ∷ 0 ∷ []) $ heard ! inW (λ in₀. heard ! inR (λ in₁. heard ! May (λ may.
    split ! $ split3 ! $ move ! (2 ∷ []) $ split3 ! $ move ! (5 ∷ []) $ fsplit ! $ fsplit3 ! $ keep ! (1 ∷ 2 ∷ 3 ∷ 4 ∷ 5 ∷ 7 ∷ 8 ∷ []) $ move ! (2 ∷ []) $ fsplit ! $ keep ! (0 ∷ 2 ∷ 3 ∷ 4 ∷ 5 ∷ 6 ∷ 7 ∷ []) $
    -- [the work; the porter, in two; the lifetimes' tokens: of W, R, the porter's, the work's]
    rewrite ! 0 (λ (ws : List Val). ‵ ((MutRef (named 1) μ V).own_val m ws)) et refl $
    let Vs : List Val = vptr rb ro ∷ vy ∷ [] in suffices ! (Run Vs) (subst (λ (ws : List Val). ent 𝓤 (Run Vs) (Run ws)) (sym (λ i. es i ++ (et i ++ []))) (id⊢ 𝓤 (Run Vs))) $
    enter ! 𝓣.C 𝓣.Λ fn Vs Post $ alloc_all ! (λ l. pass_all ! refl ((tt, tt), ((tt, tt), tt)) $ let Ev = env fn.locals l in let τ : Ty = (spot_of 𝓤 H Ev 3).0 in
    move ! (1 ∷ 2 ∷ 5 ∷ []) $ opens ! tt Row rb ro (λ vs0. move ! (1 ∷ []) $ fsplit ! $ move ! (1 ∷ []) $ fsplit ! $ move ! (1 ∷ 2 ∷ 3 ∷ 4 ∷ 5 ∷ 6 ∷ 7 ∷ 8 ∷ 9 ∷ 10 ∷ 0 ∷ []) $
    -- [what the porter owns; the porter; its cell, in four entries; the work; the tokens of R, W, the work's; its size]
    use1 𝓛 (later (some (λ (log : List Entry). given (IsHome 𝓛 b.name b.home b.seen log) (‵ (porter_owns b.name true 0 log))))) (goes_home 𝓛 b.name b.seen b.home) $ await ! tt $ pick ! (λ log. learn ! (λ so.
    use1 𝓛 (‵ (porter_owns b.name true 0 log) ⊛ ‵ (knows b.name) ⊛ ‵ (reached entry_coded b.name.log log)) (porter_knows 𝓛 b.name true 0 log) $ split3 ! $ move ! (1 ∷ 2 ∷ []) $ fjoin ! $
    -- [the token of the book; what the porter owns; the porter; its cell, in four entries; the work; the tokens of R, W, the work's]
    move ! (1 ∷ 2 ∷ 3 ∷ 4 ∷ 5 ∷ 6 ∷ 7 ∷ 8 ∷ 9 ∷ 10 ∷ []) $ use1 𝓛 (‵ (pass_owns b.name 0 log)) (home_passes 𝓛 b.name log) $ move ! (11 ∷ 0 ∷ []) $ fjoin ! $
    let x : P.Denot = record { marker = record {}; name = b.name; id = 0; size = b.size; seen = log } in
    sets ! (agg ! (no_more !)) refl (tt, tt) $ sets ! (agg ! (and_then ! (get ! refl) (no_more !))) refl (tt, (tt, tt)) $ sets ! (addr ! (from ! (stop !))) refl (tt, tt) $ sets ! (addr ! (through ! refl (stop !))) refl (tt, tt) $
    sets ! (of_opd ! (get ! refl)) refl (tt, tt) $ sets ! (addr ! (through ! refl (stop !))) refl (tt, tt) $
    first ! $ blocks ! $ sets_last ! (addr ! (through ! refl (stop !))) refl (tt, tt) $ exec ! 𝓣.C 𝓣.Λ Ev (after 7 fn.body) (at_ret Ev Post) $ sets ! (of_opd ! (get ! refl)) refl (tt, tt) $
    take_at ! 3 $ move ! (1 ∷ []) $ use0 𝓛 (‵ ((Mark static_lft).own_val (record {}, tt) (token ∷ []))) (mark_made 𝓛 static_lft) $ fjoin ! $ move ! (1 ∷ 0 ∷ []) $
    use2 𝓛 (‵ (part_at P full_share x (l 3) 0)) (part_in_at 𝓛 P refl full_share x (l 3) 0 τ refl token) $
    lft_new ! tt (λ α. let β : Lft = α ∷ [] in
    let ref : GName → MutBor P.Denot = λ δ. record { ref_ptr = (l 3, 0); ghost_name = δ; now = x } in
    move ! (1 ∷ []) $ use1 𝓛 (later (some (λ (δ : GName). ‵ ((MutRef (named 0) β P).own_val (ref δ) (vptr (l 3) 0 ∷ [])) ⊛ ‵ (flent β (SemBody (mem P) (l 3) 0 δ))))) (lends_ref 𝓛 P (named 0) β x (l 3) 0) $ await ! tt $ pick ! (λ δ. split ! $
    -- [the reference; the lender's part; its lifetime's token; the porter's fields; its cell, in four entries; the work; the tokens of R, W]
    let shut = shut_by 𝓛 b.name b.home b.seen log so in let Can : Type 0 = w.may y x in
    use0 𝓛 (raw (fact 𝓤 Can)) (fact_i 𝓤 Can (emp 𝓤) (may x shut)) $ use0 𝓛 (raw (fact 𝓤 inR)) (fact_i 𝓤 inR (emp 𝓤) in₁) $ join ! $ use0 𝓛 (raw (fact 𝓤 inW)) (fact_i 𝓤 inW (emp 𝓤) in₀) $ join ! $
    nothing ! $ move ! (2 ∷ 0 ∷ []) $ fjoin ! $ move ! (9 ∷ 0 ∷ []) $ fjoin ! $
    -- [what is passed; what is asked; the lender's part; the lifetime's token; the fields; the cell, in four entries; the tokens of W, R, the work's]
    nothing ! $ move ! (11 ∷ 0 ∷ []) $ join ! $ move ! (10 ∷ 0 ∷ []) $ join ! $ move ! (4 ∷ 0 ∷ []) $ join ! $ move ! (9 ∷ 0 ∷ []) $ join ! $ join ! $ join ! $
    let called : Lets.Ghost = (((μ, (β, (κw, (κr, tt)))), (qm, (full_share, (qw, (qr, tt)))), z.0.2, (m, (ref δ, tt)), (vy ∷ [], (vptr (l 3) 0 ∷ [], tt))), tt) in
    use1 𝓛 (raw (Lets.pre called)) (id⊢ 𝓤 _) $
    calls_at ! (fm 𝓛 𝓜 𝓡) Lets met.stay called (and_then ! (get ! refl) (and_then ! (get ! refl) (no_more !))) (λ u.
    let Gave : W.Denot → P.Denot → R.Denot → Type 0 = λ y' x' o'. ((x'.name ≡ b.name) × (x'.id ≡ 0) × (x'.size ≡ b.size)) × w.gives y y' x x' o' in
    use1 𝓛 (later (some (λ (o' : R.Denot). ((‵ (flft μ qm) ⊛ ‵ (flft β full_share) ⊛ ‵ (flft κw qw) ⊛ ‵ (flft κr qr) ⊛ ‵ ftrue) ⊛ ‵ ((param 1 R).own_val o' (u ∷ []))) ⊛
    some (λ (ws : W.Denot × (P.Denot × Unit {0})). ‵ (lasts (with.ended W R w dict) called.0.0 called.0.3 ws) ⊛ raw (fact 𝓤 (Gave ws.0 ws.1.0 o')))))) (id⊢ 𝓤 _) $ await ! tt $ pick ! (λ o'. split ! $ split ! $
    move ! (2 ∷ []) $ pick ! (λ ws. split ! $ move ! (1 ∷ []) $ heard ! (Gave ws.0 ws.1.0 o') (λ gave. let y' : W.Denot = ws.0 in let x' : P.Denot = ws.1.0 in
    fsplit ! $ move ! (1 ∷ []) $ fsplit ! $ fsplit ! $ move ! (3 ∷ []) $ fsplit ! $
    -- [the last work, in two; the last pass; its borrow; nothing; the tokens; the result; the lender's part; the fields; the cell, in four entries]
    move ! (5 ∷ []) $ split3 ! $ move ! (2 ∷ []) $ split3 ! $ move ! (4 ∷ []) $ lft_end ! tt $
    -- [it is over; W's token; R's; nothing; the work's; the last work, in two; the last pass; its borrow; nothing; the result; the lender's part; the fields; the cell]
    move ! (0 ∷ 11 ∷ 7 ∷ []) $ use3 𝓛 (later (‵ (part_at P full_share x' (l 3) 0))) (ref_back 𝓛 P β δ x' (l 3) 0) $ await ! tt $
    use1 𝓛 (some (λ (v : Val). ‵ (fat full_share τ (l 3) 0 v) ⊛ ‵ (P.own_val x' (v ∷ [])))) (part_out_at 𝓛 P refl full_share x' (l 3) 0 τ refl) $ pick ! (λ v. split ! $ give_at ! 3 $
    -- [the pass; W's token; R's; nothing; the work's; the last work, in two; the borrow; nothing; the result; the fields; the cell, in four entries]
    fsplit ! $ move ! (1 ∷ []) $ rewrite ! 0 (λ (k : Name). ‵ (sized_pass k [] x'.id x'.size x'.seen)) gave.0.0 refl $ rewrite ! 0 (λ (k : ℕ). ‵ (sized_pass b.name [] k x'.size x'.seen)) gave.0.1 refl $
    rewrite ! 0 (λ (k : ℕ). ‵ (sized_pass b.name [] 0 k x'.seen)) gave.0.2 refl $ fsplit ! $ move ! (1 ∷ []) $
    -- [the pass; its size; the marker; W's token; ..]
    use1 𝓛 (‵ (porter_owns b.name true 0 x'.seen)) (pass_homes 𝓛 b.name x'.seen) $ move ! (0 ∷ 17 ∷ []) $
    use2 𝓛 (later (given (IsPrefix log x'.seen) (‵ (porter_owns b.name true 0 x'.seen) ⊛ ‵ (book_owns b.name log)))) (covered 𝓛 b.name x'.seen log) $ await ! tt $ learn ! (λ grows. split ! $ move ! (1 ∷ []) $ drop ! $ move ! (1 ∷ 0 ∷ []) $ fjoin ! $
    -- [what the porter owns; the marker; W's token; R's; nothing; the work's; the last work, in two; the borrow; nothing; the result; the fields; the cell]
    let b' : Row.Denot = record b { seen = x'.seen; home = true } in
    move ! (11 ∷ 0 ∷ []) $ fjoin ! $ move ! (11 ∷ 0 ∷ 12 ∷ 13 ∷ 14 ∷ []) $ closes ! tt Row b' vs0 rb ro $
    -- [the porter, in two; its token; the marker; W's token; R's; nothing; the work's; the last work, in two; the borrow; nothing; the result]
    move ! (12 ∷ []) $ peeks ! (param 1 R) (Is (param 1 R)) (shows 𝓛 (param 1 R)) o' (u ∷ []) (λ is. let good = (((param_laws 1 R LR).lawful 𝓛).typed o' (u ∷ []) is).0 in
    lands_as ! refl refl good $ sets ! (of_opd ! (get ! refl)) refl good $
    move ! (6 ∷ 7 ∷ []) $ join ! $ move ! (6 ∷ 0 ∷ []) $ join ! $ move ! (6 ∷ 0 ∷ []) $ join ! $ move ! (4 ∷ 0 ∷ []) $ join ! $
    -- [the tokens; the result; the porter, in two; the marker; the last work, in two]
    nothing ! $ move ! (6 ∷ 7 ∷ []) $ fjoin ! $ fjoin ! $ feq_i ! (List Val) z.0.4.0 (vptr rb ro ∷ []) es $ move ! (0 ∷ 4 ∷ 5 ∷ []) $ fjoin3 ! $ fjoin ! $
    -- [the parameters; the tokens; the result]
    let Told : Type 0 = HadStay (λ e f. w.gives y y' e f o') b b' in let told : Told = record { lent = x; back = x'; shut = shut; same = gave.0; grows = grows; gives = gave.1; again = ((gave.0.0, gave.0.2), refl, refl) } in
    use0 𝓛 (raw (fact 𝓤 Told)) (fact_i 𝓤 Told (emp 𝓤) told) $
    returns ! (look_at ! 0 refl) $ free_all ! refl $ keep ! (2 ∷ 1 ∷ 3 ∷ 0 ∷ []) $ by ! (leaves 𝓛 En hs c z u o' (b', (y', tt)) (tt, (tt, tt))))))))))))))))))))
