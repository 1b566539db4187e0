use Rattle.std.proofs.Common.{◌∙◌, ◌++◌, ap, codes, map}
use Rattle.std.proofs.lemmas.Result.{on_ok_weaker}
use Rattle.std.specs.Fmt.{decimal}
use Rattle.pol_names.specs.Kept.{secret_line}
use Rattle.pol_names.specs.declared.secret.Credential.TheVariants.{Login, Enable}
use Rattle.pol_names.specs.Service.{line_text}
use Rattle.pol_text.specs.Text.{heading_line, line_for, rule_line, text_of_lines}
use Rattle.pol_text.proofs.PrintFacts.{subject_text}
use Rattle.pol_text.proofs.printing.print_subject.Goals as goal

pub returns : goal.returns
returns c =
    on_ok_weaker c.print_rules.result
    (λ told. subject_text c.args.text.now c.print_heading.new.text c.print_secret.new.text c.print_secret-2.new.text c.print_level.new.text c.print_services.new.text c.print_rules.new.text
    (heading_line c.args.subject.now) (line_for (secret_line Login) c.args.subject.now.login) (line_for (secret_line Enable) c.args.subject.now.enable)
    (line_for (λ level. codes "priv " ++ decimal level) c.args.subject.now.priv_lvl) (map line_text c.args.subject.now.services) (map rule_line c.args.subject.now.rules)
    c.in_ok-print_heading.ensures c.in_ok-print_secret.ensures c.in_ok-print_secret-2.ensures c.in_ok-print_level.ensures
    (c.in_ok-print_services.ensures ∙ ap (λ lines. c.print_level.new.text ++ text_of_lines (map line_text lines)) c.as_slice.ensures)
    (told ∙ ap (λ rules. c.print_services.new.text ++ text_of_lines (map rule_line rules)) c.as_slice-2.ensures))
    c.print_rules.ensures
