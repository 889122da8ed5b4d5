mod Rules
mod Totals
