-- A template is entered with the same values, or with the same fault.
use Rattle.scope_laws.proofs.Texts.{template_scopes_agree}
use Rattle.scope_laws.proofs.laws.template_scopes_agree.Goals as goal

pub returns : goal.returns
returns c = template_scopes_agree
