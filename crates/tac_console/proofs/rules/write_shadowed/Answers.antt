use Rattle.std.proofs.Common.{◌≡◌, ◌++◌, ◌∷◌, [], List, ℕ, codes, append_assoc}
use Rattle.std.specs.Fmt.{decimal}
use Rattle.pol_names.specs.SubjectId.{subject_text}
use Rattle.tac_console.proofs.rules.write_shadowed.Goals as goal

joined : (out subject owner number : List ℕ)
    → (out ++ (codes "shadowed in " ++ subject)) ++ (codes ": " ++ (owner ++ (codes " rule " ++ (number ++ 10 ∷ []))))
    ≡ out ++ (codes "shadowed in " ++ subject ++ codes ": " ++ owner ++ codes " rule " ++ number ++ 10 ∷ [])
joined out subject owner number = simp append_assoc

pub returns : goal.returns
returns c =
    let row = c.args.row.now in
    rw (c.in_ok-writeln.ensures.bytes, c.in_ok-write.ensures.bytes)
    (joined c.args.out.now.items (subject_text row.subject) (subject_text row.owner) (decimal row.number))
