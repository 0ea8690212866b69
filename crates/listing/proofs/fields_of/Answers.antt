use borrow.Author.Rules.{rules}
use Rattle.model.specs.Inputs.{fault_at}
use Rattle.model.specs.Grade.{eight_fields, record_at}
use Rattle.decimals.specs.Put.{Below}
use Rattle.listing.specs.Print.{fault_fields}
use Rattle.listing.proofs.fields_of.Goals as goal

pub returns : goal.returns
unfolding fault_fields eight_fields record_at fault_at Below
returns c = record { same = cc; small = search rules }
