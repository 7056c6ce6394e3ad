mod DecimalFronts
mod HeldLaws
mod TextLaws
