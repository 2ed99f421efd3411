use Rattle.sparql_tokens.proofs.escapes.+hex_number.Given as goal

abbrev pub decreases-hex_number : goal.decreases-hex_number
decreases-hex_number l = l.digits
