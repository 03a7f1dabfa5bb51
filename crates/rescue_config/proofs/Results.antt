-- The points of a file, or its first broken rule, as far as the rules have been tried.
use Rattle.std.proofs.Common.{◌≡◌, ◌⊎◌, inl, inr, refl, rules, ℕ, List, [], sym, ap, subst, ◌∙◌}
use Rattle.std.specs.Prelude.{Option, Some, None, Result, Ok, Err, IfOk, IsOk, IsErrOf}
use Rattle.std.specs.Option.{option_or}
use Rattle.guest_words.specs.declared.image.Span.{Span}
use Rattle.guest_words.specs.declared.point.Point.{Point}
use Rattle.elf_symbols.specs.declared.symbol.Symbol.{Symbol}
use Rattle.toml.specs.Data.{Items, Members}
use Rattle.rescue_config.specs.declared.version.Version.{Version}
use Rattle.rescue_config.specs.Version.{version_of}
use Rattle.rescue_config.specs.declared.point_fault.PointFault.{PointFault}
use Rattle.rescue_config.specs.declared.points_fault.PointsFault.{PointsFault}
use Rattle.rescue_config.specs.declared.points_fault.PointsFault.TheVariants.{Points, Memory}
use Rattle.rescue_config.specs.Document.{document_of, point_items, file_rules, points_rules, points_in, first_at_file, first_at_point, points_or, points_of_document, points_of}
use Rattle.rescue_config.specs.Tells.{IsCause, Tells, unparsed}

-- what a refusal tells of the first broken rule
told : (broken : Option (PointFault × Option ℕ)) (e : PointsFault) (fault : PointFault) (place : Option ℕ) → IsCause e broken → e ≡ Points fault place → broken ≡ Some (fault, place)
told broken e fault place cause is = let P : PointsFault → Type 0 = λ f. IsCause f broken in subst P is cause

pub err_told : {T : Type 0} (r : Result T PointsFault) (broken : Option (PointFault × Option ℕ)) (fault : PointFault) (place : Option ℕ)
    → Tells r broken → r ≡ Err (Points fault place) → broken ≡ Some (fault, place)
err_told (Ok x) broken fault place tells is = cc
err_told (Err e) broken fault place tells is = told broken e fault place tells cc

-- the bytes are no document
pub points_of-unparsed : (bytes : List ℕ) (symbols : List Symbol) (text : List Span) (x : PointFault × Option ℕ) → unparsed (document_of bytes) ≡ Some x → points_of bytes symbols text ≡ Err x
unfolding points_of
points_of-unparsed bytes symbols text x =
    elim (document_of bytes) as (λ d. unparsed d ≡ Some x → points_of_document symbols text d ≡ Err x) [
      | None ↦ λ h. cc
      | Some file ↦ λ h. cc
    ]

-- a rule on the whole file is broken
pub points_of-file : (bytes : List ℕ) (symbols : List Symbol) (text : List Span) (file : Members) (x : PointFault × Option ℕ)
    → document_of bytes ≡ Some file → first_at_file (file_rules file) ≡ Some x → points_of bytes symbols text ≡ Err x
unfolding points_of
points_of-file bytes symbols text file x document broken =
    ap (points_of_document symbols text) document
    ∙ ap (λ first. points_or (points_in (version_of file) symbols (point_items file)) (option_or first (first_at_point (points_rules (version_of file) symbols text [] (point_items file))))) broken

-- the rules on the whole file are kept: those on the points decide
pub points_of-points : (bytes : List ℕ) (symbols : List Symbol) (text : List Span) (file : Members) (version : Version) (items : Items) (first : Option (PointFault × Option ℕ))
    → document_of bytes ≡ Some file
    → first_at_file (file_rules file) ≡ None
    → version ≡ version_of file
    → items ≡ point_items file
    → first_at_point (points_rules version symbols text [] items) ≡ first
    → points_of bytes symbols text ≡ points_or (points_in version symbols items) first
unfolding points_of
points_of-points bytes symbols text file version items first document kept said same is =
    ap (points_of_document symbols text) document
    ∙ ap (λ none. points_or (points_in (version_of file) symbols (point_items file)) (option_or none (first_at_point (points_rules (version_of file) symbols text [] (point_items file))))) kept
    ∙ ap (λ its. points_or (points_in (version_of file) symbols its) (first_at_point (points_rules (version_of file) symbols text [] its))) (sym same)
    ∙ ap (λ v. points_or (points_in v symbols items) (first_at_point (points_rules v symbols text [] items))) (sym said)
    ∙ ap (points_or (points_in version symbols items)) is

-- what a reading of the points tells of the file
pub points_told : (bytes : List ℕ) (symbols : List Symbol) (text : List Span) (file : Members) (version : Version) (items : Items) (r : Result (List Point) PointsFault)
    → document_of bytes ≡ Some file
    → first_at_file (file_rules file) ≡ None
    → version ≡ version_of file
    → items ≡ point_items file
    → Tells r (first_at_point (points_rules version symbols text [] items))
    → IfOk r (λ points. points ≡ points_in version symbols items)
    → IfOk r (λ points. points_of bytes symbols text ≡ Ok points)
points_told bytes symbols text file version items (Ok points) document kept said same tells list =
    points_of-points bytes symbols text file version items None document kept said same tells ∙ ap Ok (sym list)
points_told bytes symbols text file version items (Err e) document kept said same tells list = tt

-- an answer that tells the points and the first broken rule is the one that the file gives
pub refused : (r : Result (List Point) PointsFault) (file : Result (List Point) (PointFault × Option ℕ))
    → IfOk r (λ points. file ≡ Ok points)
    → ((fault : PointFault) (place : Option ℕ) → IsErrOf r (Points fault place) → file ≡ Err (fault, place))
    → (fault : PointFault) (place : Option ℕ) → file ≡ Err (fault, place) → IsErrOf r (Points fault place) ⊎ IsErrOf r Memory
refused (Ok points) file ok cause fault place is = cc
refused (Err Memory) file ok cause fault place is = inr refl
refused (Err (Points other at)) file ok cause fault place is =
    let told = cause other at refl in
    let same : (other, at) ≡ (fault, place) = cc in
    inl (ap (λ (x : PointFault × Option ℕ). Err (Points x.0 x.1)) same)

pub accepted : (r : Result (List Point) PointsFault) (file : Result (List Point) (PointFault × Option ℕ))
    → ((fault : PointFault) (place : Option ℕ) → IsErrOf r (Points fault place) → file ≡ Err (fault, place))
    → IsOk file → IsOk r ⊎ IsErrOf r Memory
accepted (Ok points) file cause is = inl refl
accepted (Err Memory) file cause is = inr refl
accepted (Err (Points other at)) file cause is = absurd (let told = cause other at refl in search (rules, told))
